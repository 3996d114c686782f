mod Names
mod Shapes
mod Places
mod Whole
mod Calls
mod Legends
mod Stations
