-- What a search keeps and promises.
pub mod Shown
pub mod Searched
pub mod Trying
pub mod Tracks
pub mod Gains
pub mod Least
pub mod Bounds
pub mod Tries
pub mod Alike
pub mod Changes
pub mod Lifting
