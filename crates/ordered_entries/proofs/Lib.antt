pub mod RisingLists
pub mod Rising
pub mod Places
pub mod OrderLemmas
pub mod Values
pub mod RunLemmas
mod RisingPairs
