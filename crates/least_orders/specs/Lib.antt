pub mod OrderCosts
pub mod Arrangements
pub mod LeastOrders
pub mod Rows
pub mod Subsets
