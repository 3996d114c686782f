pub mod MakeLemmas
pub mod CheckLemmas
mod ImproveLemmas
mod ImportLemmas
