pub mod Literal
pub mod Equality
pub mod Truth
