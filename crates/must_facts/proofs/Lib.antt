pub mod Lists
pub mod Worlds
pub mod Learning
pub mod Wholes
