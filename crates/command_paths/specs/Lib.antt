pub mod Sets
pub mod Paths
