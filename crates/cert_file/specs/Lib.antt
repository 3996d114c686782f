pub mod Plain
pub mod RunWords
pub mod Text
pub mod Forms
pub mod Ranges
pub mod Reading
pub mod Readers
