-- Samples of a course, the snap of stations on them, and hops.
pub mod Faults
pub mod Samples
pub mod Sampling
pub mod Snaps
pub mod Choices
pub mod Sweeps
pub mod Rows
pub mod Hops
pub mod BestPlaces
