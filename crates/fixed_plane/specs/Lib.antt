-- Points of the plane, how far they are apart, and the directions between them.
pub mod Plane
pub mod Measures
pub mod Directions
