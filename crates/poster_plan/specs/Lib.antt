pub mod Signs
pub mod Things
pub mod Places
pub mod Placing
pub mod Pitches
pub mod Legends
pub mod Laws
