pub mod Weights
pub mod Drawn
pub mod Scales
pub mod Reach
