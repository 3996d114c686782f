pub mod Consistent
pub mod Round
