pub mod Lists
pub mod Squares
mod CellLemmas
mod RisingLists
mod EdgeLemmas
mod ThinLemmas
pub mod EdgeFacts
pub mod Meeting
mod Covering
mod CellsAround
mod SameLists
pub mod Finding
pub mod Joining
