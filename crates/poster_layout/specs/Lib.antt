pub mod Rooms
pub mod Extents
pub mod Fits
