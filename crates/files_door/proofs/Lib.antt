pub mod Acts
pub mod Faults
mod Kept
mod Places
mod ReadSoFar
pub mod Targets
