pub mod Tables
pub mod Values
pub mod Entries
pub mod Outcome
pub mod Faults
