pub mod Methods
pub mod Defaults
