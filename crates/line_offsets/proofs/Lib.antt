pub mod Paths
pub mod Meeting
