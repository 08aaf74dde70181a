pub mod Arrows
pub mod Points
pub mod Objects
