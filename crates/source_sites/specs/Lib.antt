pub mod Sites
pub mod Chosen
