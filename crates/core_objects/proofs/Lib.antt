pub mod Settling
pub mod DeclaredObjects
pub mod Joining
