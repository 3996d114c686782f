pub mod PartStates
pub mod PairGroups
pub mod Changes
pub mod Settled
pub mod Kept
