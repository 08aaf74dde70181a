pub mod WordSums
pub mod DivisionLaws
pub mod ShiftLaws
pub mod Nodes
pub mod Operated
