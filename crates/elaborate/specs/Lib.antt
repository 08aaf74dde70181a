pub mod Types
pub mod Operators
pub mod Callees
pub mod Tokens
pub mod Means
