mod DrawnLemmas
mod ItemLemmas
mod HeldOrders
mod ReadAgain
mod MadeProblem
pub mod CheckSteps
pub mod Accepted
pub mod Shown
mod SolveLemmas
mod Importance
mod DrawingLemmas
mod Straightened
mod UntangledLemmas
mod MovedDrawings
pub mod MadeLemmas
pub mod KeepLemmas
pub mod NoneLeft
mod CostParts
mod PartOrders
mod Accepting
mod Promised
mod TreeRanges
mod RuleRanges
mod CertificateRanges
mod Alike
