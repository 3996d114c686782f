pub mod FileLemmas
pub mod TableLemmas
pub mod LoadLemmas
pub mod EditLemmas
mod SetLemmas
