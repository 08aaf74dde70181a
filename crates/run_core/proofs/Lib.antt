pub mod Measured
pub mod Tables
