pub mod SlotSums
pub mod TableSteps
pub mod SlotValues
pub mod ChargeLemmas
pub mod SignedSums
pub mod Charging
pub mod PriceLemmas
pub mod RuleTurns
mod Closing
mod Leasts
mod Placings
mod SpotLists
mod Counting
mod Tallies
mod Pricing
mod Closes
mod Nodes
mod Walks
mod Verdicts
