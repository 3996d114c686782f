-- Flags, one bit each.
pub mod Bits
