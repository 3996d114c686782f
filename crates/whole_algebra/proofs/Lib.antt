pub mod Products
pub mod Identities
pub mod Signs
pub mod Rounding
pub mod Crossings
