pub mod Patterns
pub mod PatternKeys
pub mod Feed
pub mod Good
pub mod Steps
