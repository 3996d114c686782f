pub mod DigitLemmas
pub mod NumberLemmas
pub mod RangeLemmas
pub mod Words
pub mod LineLemmas
pub mod Steps
pub mod Stops
