mod Orders
mod Sharing
mod Discs
pub mod Computed
