-- What crates over whole numbers say of rounding, and of points by their coordinates.
pub mod Rounding
pub mod Turns
