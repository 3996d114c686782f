mod Members
mod Reaching
mod Searching
mod Putting
mod Tabling
pub mod Finding
pub mod Rows
