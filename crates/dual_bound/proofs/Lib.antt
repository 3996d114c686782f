mod Examples
pub mod Segments
pub mod TermShares
pub mod Bounding
pub mod Sound
pub mod Shown
pub mod ShareCosts
