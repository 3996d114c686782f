pub mod Entries
pub mod Adding
pub mod Ahead
pub mod Grouping
pub mod Telling
pub mod Terms
mod Writing
