mod ListLemmas
mod ByLine
mod Noting
mod Calling
