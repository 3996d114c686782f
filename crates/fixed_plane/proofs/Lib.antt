pub mod Distances
pub mod Rounds
