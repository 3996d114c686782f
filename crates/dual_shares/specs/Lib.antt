pub mod Groups
pub mod GroupSteps
pub mod RowSteps
pub mod CostRows
pub mod SettledSets
pub mod Writing
