pub mod Levels
pub mod InitialTellings
pub mod ItemTellings
