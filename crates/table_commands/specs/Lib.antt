pub mod Stations
pub mod TableWorks
