pub mod Decided
pub mod Pairs
pub mod Bounds
pub mod Values
pub mod CanonicalPrices
pub mod Accepting
