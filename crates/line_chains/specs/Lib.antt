-- Chains of a line graph, and where they bend on the ground.
pub mod Chains
pub mod Bends
pub mod Marks
