pub mod Examples
pub mod Faults
pub mod Rounds
pub mod NodeWays
pub mod Sorting
pub mod GraphFacts
pub mod GraphProblem
