pub mod Heights
pub mod UnitHeights
