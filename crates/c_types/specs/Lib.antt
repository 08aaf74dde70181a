pub mod Causes
pub mod Sizes
