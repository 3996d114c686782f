pub mod SoFar
pub mod LinkShares
pub mod AllowedPrices
pub mod Filled
pub mod Shown
