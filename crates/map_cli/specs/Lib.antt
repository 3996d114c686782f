pub mod Sessions
pub mod Ends
