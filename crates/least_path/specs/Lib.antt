pub mod Paths
pub mod Orders
pub mod Least
