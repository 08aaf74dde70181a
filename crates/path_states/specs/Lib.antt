pub mod States
pub mod Ways
pub mod Merges
