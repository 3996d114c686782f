-- Runs of segments that are laid anew, and attempts to make a drawing lighter by them.
pub mod Pieces
pub mod Laying
pub mod Attempts
pub mod Searches
pub mod Runs
pub mod Sketches
pub mod Drawings
