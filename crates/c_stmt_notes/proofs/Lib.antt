pub mod Added
pub mod Together
pub mod Expressions
pub mod Alike
pub mod Turns
pub mod Arms
