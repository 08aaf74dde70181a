pub mod ByBytes
pub mod Innermost
