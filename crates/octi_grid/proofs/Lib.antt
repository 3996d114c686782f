pub mod WayLemmas
pub mod RunLemmas
pub mod CostLemmas
pub mod Members
pub mod TakingLemmas
pub mod LegalLemmas
pub mod MeetsLemmas
mod PointSetLemmas
mod SweepLemmas
mod CheckLemmas
mod CheckSteps
pub mod PortsLemmas
pub mod Fronts
