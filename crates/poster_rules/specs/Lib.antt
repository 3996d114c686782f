pub mod Stations
pub mod Texts
pub mod Plans
pub mod Elements
pub mod Posters
