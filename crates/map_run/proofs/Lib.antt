pub mod Budgets
pub mod EndingLemmas
pub mod LawLemmas
pub mod HeadlineLemmas
pub mod DoneLemmas
pub mod SaysYes
pub mod ArmLemmas
