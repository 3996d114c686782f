pub mod Refusals
pub mod Items
pub mod Lines
pub mod Statuses
pub mod Outputs
pub mod Following
