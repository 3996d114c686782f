pub mod Asking
pub mod Prices
pub mod Settling
pub mod Nodes
pub mod Answering
