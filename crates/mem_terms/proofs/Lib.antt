pub mod Space
pub mod SeenLemmas
pub mod TruthLemmas
pub mod Rows
