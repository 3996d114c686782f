pub mod Checked
pub mod Placing
pub mod DualTrees
mod Verdicts
mod DualExamples
