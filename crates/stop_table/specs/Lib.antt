pub mod Stops
pub mod Parents
pub mod Leads
