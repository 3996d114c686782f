mod Lists
mod OnePoint
mod RunLemmas
mod Earth
mod PlaceTables
mod FlagLemmas
mod Served
mod HopsAlong
mod CourseLemmas
mod SumLemmas
pub mod WholeLemmas
mod FeedLemmas
pub mod ServedStations
