pub mod Roots
pub mod Quotients
pub mod Turning
pub mod Beside
pub mod Steps
