mod Examples
pub mod Lists
pub mod LeastValues
pub mod Arranging
pub mod Sets
pub mod Stepping
pub mod Keeping
pub mod Bounds
pub mod Renaming
pub mod CostSums
