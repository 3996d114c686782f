pub mod Settled
pub mod Shares
pub mod ShareCosts
pub mod Values
pub mod Accepting
