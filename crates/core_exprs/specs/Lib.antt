pub mod Sites
pub mod Passing
pub mod Found
