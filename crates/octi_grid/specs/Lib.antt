pub mod Ways
pub mod Costs
pub mod Runs
pub mod Walks
pub mod Legal
pub mod PointSets
pub mod Taking
pub mod Sweeps
