pub mod Rounds
pub mod Walking
mod Listing
mod Flags
mod Below
mod Farthest
mod Bending
mod Reaching
mod Rings
