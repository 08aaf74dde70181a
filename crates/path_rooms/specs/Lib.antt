pub mod Rooms
pub mod Births
