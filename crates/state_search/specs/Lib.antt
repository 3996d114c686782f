pub mod Goals
pub mod Searching
pub mod Rows
