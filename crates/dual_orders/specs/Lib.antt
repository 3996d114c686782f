pub mod OwnTerms
pub mod Parts
pub mod SettledPairs
pub mod Solvers
pub mod Values
pub mod Closing
pub mod NextPairs
pub mod Answered
