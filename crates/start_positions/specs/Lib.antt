pub mod Cells
pub mod Nodes
pub mod Spreads
pub mod Homes
pub mod Nearest
