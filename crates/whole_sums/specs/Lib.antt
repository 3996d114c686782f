-- Sums of whole numbers of either sign.
pub mod Sums
