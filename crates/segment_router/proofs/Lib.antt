pub mod Places
pub mod TourLemmas
pub mod OrderLemmas
mod AttemptLemmas
pub mod RouteLemmas
pub mod SettledLemmas
pub mod MaskLemmas
pub mod ClockLemmas
pub mod RoutingLemmas
mod OrderFacts
pub mod Beginning
pub mod ClearNodes
pub mod LaidLemmas
pub mod LaidPorts
pub mod LegalRoutes
pub mod Again
mod NearRoutes
mod ShownLemmas
mod Examples
