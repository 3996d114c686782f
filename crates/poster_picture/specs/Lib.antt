pub mod Sheets
pub mod Feet
pub mod Parts
pub mod Noted
pub mod Inks
