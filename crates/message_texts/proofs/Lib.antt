mod KeyLemmas
mod MeantLemmas
