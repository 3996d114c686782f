mod OwnTerms
mod Groups
mod KeptUp
pub mod NotedPairs
mod Marks
mod KeptShares
mod OwnSegments
mod ApartLists
mod PairsKept
mod PricesKept
mod OwnUse
mod OwnPrices
pub mod Restored
