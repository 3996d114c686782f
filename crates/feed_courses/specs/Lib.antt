-- The courses of a feed's patterns.
pub mod Shown
pub mod Places
pub mod Outcome
pub mod Fit
pub mod Faults
pub mod Flags
pub mod Runs
pub mod Tables
