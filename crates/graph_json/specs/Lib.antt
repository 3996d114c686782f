-- The line graph as a file of GeoJSON: its text, and what a file is read as.
pub mod Written
pub mod Forms
pub mod Limits
pub mod References
pub mod Columns
pub mod Outcome
pub mod Again
