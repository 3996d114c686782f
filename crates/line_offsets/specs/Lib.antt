pub mod Shifts
pub mod Paths
