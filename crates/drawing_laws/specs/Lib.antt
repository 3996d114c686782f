pub mod Plane
pub mod Routing
