pub mod LeftTerms
pub mod Segments
pub mod Waits
pub mod Works
