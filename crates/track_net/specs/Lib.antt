pub mod Nearness
pub mod Nets
pub mod Faults
pub mod Laws
pub mod Searching
pub mod Cells
