mod TermLooks
mod Mapped
mod Collected
mod Gathered
mod WalkSteps
mod PricedSlots
pub mod PairCosts
pub mod Noted
mod Opened
