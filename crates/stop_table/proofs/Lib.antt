pub mod StopLemmas
pub mod PlacedLemmas
pub mod LeadLemmas
