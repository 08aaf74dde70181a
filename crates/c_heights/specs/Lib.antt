pub mod Capped
pub mod Externals
