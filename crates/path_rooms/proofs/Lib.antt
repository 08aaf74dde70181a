pub mod PlaceCounts
pub mod CodeCounts
pub mod CodeForms
pub mod Giving
pub mod Bound
