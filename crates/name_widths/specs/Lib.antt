pub mod Widths
pub mod Words
pub mod Votes
pub mod Colours
