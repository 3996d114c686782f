pub mod ChangeLemmas
mod EachLemmas
mod ImportanceLemmas
mod KeyLemmas
mod TableLemmas
mod TextLemmas
