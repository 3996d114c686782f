pub mod IdLemmas
pub mod CellLemmas
pub mod ReasonLemmas
pub mod RowLemmas
pub mod FolderLemmas
pub mod DistinctIds
pub mod FirstLemmas
