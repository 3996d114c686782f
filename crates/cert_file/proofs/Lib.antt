mod Examples
pub mod Appends
pub mod Pairs
pub mod DistinctLines
pub mod Runs
pub mod Walks
pub mod FormLemmas
pub mod WalkLemmas
pub mod Bodies
pub mod Heads
pub mod Wholes
pub mod Again
pub mod LawLemmas
