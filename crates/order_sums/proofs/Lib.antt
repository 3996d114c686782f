pub mod SumLemmas
pub mod TableLemmas
pub mod TableReads
