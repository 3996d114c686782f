mod Examples
pub mod Forests
pub mod Cuts
pub mod Lists
pub mod Walks
pub mod Pricing
pub mod Worth
pub mod Known
pub mod Sums
pub mod TermCosts
pub mod Completing
pub mod Bounding
pub mod CanonicalValue
pub mod Parts
pub mod Sound
pub mod Accepted
pub mod Failing
pub mod LeftCounts
