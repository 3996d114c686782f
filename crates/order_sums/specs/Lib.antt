pub mod PairSums
pub mod PairTables
