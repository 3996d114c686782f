pub mod CellLemmas
mod Distances
mod Rows
mod Sides
mod Columns
mod OpenPoints
mod Rooms
pub mod GridLemmas
pub mod HomeFacts
pub mod SpreadLemmas
