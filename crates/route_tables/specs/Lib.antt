pub mod Routes
pub mod Trips
