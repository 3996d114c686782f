pub mod Work
pub mod Told
pub mod Writing
pub mod Delivered
pub mod Held
pub mod Pieces
