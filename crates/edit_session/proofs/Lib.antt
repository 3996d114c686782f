mod SessionLemmas
mod ScriptLemmas
mod LawLemmas
mod EditLemmas
mod LineLemmas
mod PlayLemmas
