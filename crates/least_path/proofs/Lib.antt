pub mod Costs
pub mod Walks
pub mod Same
pub mod Chosen
