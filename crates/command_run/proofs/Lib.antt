pub mod WorkLemmas
pub mod ActLemmas
pub mod HeldLemmas
pub mod PieceLemmas
