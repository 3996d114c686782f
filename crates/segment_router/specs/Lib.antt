pub mod Ports
pub mod Orders
pub mod Routes
pub mod Underway
pub mod Routing
pub mod Tours
