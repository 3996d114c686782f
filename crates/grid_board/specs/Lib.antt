pub mod Boards
pub mod Frames
pub mod Taking
pub mod Points
