pub mod Words
pub mod Flags
