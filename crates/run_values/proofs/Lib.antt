pub mod Types
pub mod States
pub mod OnForms
pub mod Calls
pub mod PlaceCounts
