pub mod Below
pub mod Conditional
pub mod Reads
