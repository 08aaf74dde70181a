pub mod Language
pub mod Steps
pub mod Tells
