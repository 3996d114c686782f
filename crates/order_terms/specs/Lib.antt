pub mod Terms
pub mod WaysByPlace
pub mod Limits
