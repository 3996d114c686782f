pub mod Counted
pub mod TermLooks
pub mod Slots
pub mod PriceNotes
