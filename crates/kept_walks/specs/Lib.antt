-- Lines that run straight through their stations, nodes that move, and the drawing that is kept.
pub mod Lighter
pub mod Straightening
pub mod Moves
pub mod Groups
pub mod Drawings
