pub mod PriceLists
pub mod DualTrees
