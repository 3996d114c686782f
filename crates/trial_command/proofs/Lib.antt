pub mod TrialLemmas
pub mod SplitLemmas
