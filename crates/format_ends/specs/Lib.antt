pub mod Reached
pub mod Found
