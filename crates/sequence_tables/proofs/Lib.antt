pub mod ReadLemmas
pub mod ComingRows
pub mod PlaceLemmas
pub mod PlaceRunLemmas
pub mod StopTimeLemmas
pub mod StationLemmas
pub mod ShapeLemmas
pub mod CourseLemmas
