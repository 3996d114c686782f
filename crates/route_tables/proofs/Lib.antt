pub mod RouteLemmas
pub mod TripLemmas
