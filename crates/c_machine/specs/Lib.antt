pub mod Worth
pub mod States
pub mod Callers
pub mod Kinds
