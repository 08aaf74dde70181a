pub mod StepLists
pub mod PlaceLemmas
pub mod MarkLemmas
pub mod ReadingLemmas
pub mod ClauseLemmas
pub mod StepLemmas
pub mod RoomLemmas
pub mod FaultLemmas
pub mod Soundness
mod Rows
