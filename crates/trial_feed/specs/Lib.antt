pub mod Draws
pub mod Lattice
pub mod Lines
pub mod Rows
pub mod Folder
pub mod Summary
