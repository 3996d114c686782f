pub mod Legs
pub mod Handing
pub mod Outcome
pub mod SegmentLines
pub mod Text
pub mod StretchTables
pub mod Premises
pub mod Rides
