mod Pieces
mod Words
mod Flags
mod Nodes
mod Marks
mod Steps
pub mod Written
