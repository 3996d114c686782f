pub mod SlotsSoFar
pub mod Completed
pub mod Filling
