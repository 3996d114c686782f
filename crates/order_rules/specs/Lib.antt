pub mod PairWeights
pub mod Merging
pub mod Dividing
pub mod Untangling
pub mod Lifting
pub mod MergeWeights
pub mod Touching
