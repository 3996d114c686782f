mod Tables
mod CostTables
mod NetSteps
mod Searches
mod Spreading
mod Rising
mod Walked
mod Choosing
pub mod Visiting
