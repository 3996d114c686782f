pub mod Corridors
pub mod Stretches
pub mod Searching
pub mod Walking
pub mod Choices
