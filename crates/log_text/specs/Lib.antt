pub mod Lines
pub mod Patterns
pub mod Stripping
pub mod Shown
