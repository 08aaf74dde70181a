pub mod Beginnings
pub mod Views
