pub mod Turns
pub mod LeastWeights
pub mod ShortWalks
pub mod DrawnFacts
pub mod Sums
mod BoundParts
mod Trails
pub mod Spans
