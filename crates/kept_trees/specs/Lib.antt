pub mod Finding
pub mod Searching
pub mod Renumbered
pub mod Results
pub mod Keeping
pub mod OwnTrees
