pub mod Below
pub mod Stores
pub mod Ways
pub mod Blocks
pub mod Rooms
