pub mod Splits
pub mod Ways
pub mod Reading
pub mod Spelled
pub mod Beginning
pub mod Reaches
