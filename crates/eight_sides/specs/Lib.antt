pub mod Shapes
pub mod Points
pub mod Frames
