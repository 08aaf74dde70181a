pub mod Reads
pub mod Truths
