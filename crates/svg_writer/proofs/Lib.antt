pub mod Appends
pub mod Written
pub mod Ranges
pub mod Hulls
