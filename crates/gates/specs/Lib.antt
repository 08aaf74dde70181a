pub mod Nets
pub mod Cells
