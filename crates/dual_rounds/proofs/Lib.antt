pub mod Filling
pub mod TermLists
pub mod SegmentLists
pub mod Sizes
