pub mod Rising
pub mod Entries
pub mod Order
pub mod Runs
