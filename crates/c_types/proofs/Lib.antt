pub mod First
pub mod Unsized
