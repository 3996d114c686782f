pub mod Boxes
pub mod Strokes
pub mod Places
pub mod Labelled
pub mod Grids
pub mod Signs
