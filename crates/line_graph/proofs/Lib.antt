mod Ranges
pub mod Runs
mod TableSteps
mod PassageSteps
mod WaySteps
mod TableLemmas
mod LegFacts
mod PathFacts
mod NetworkFacts
mod RideLemmas
mod Whole
pub mod Outcomes
mod SegmentCourses
pub mod FeedLines
