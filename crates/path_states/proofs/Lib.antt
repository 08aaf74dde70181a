pub mod Growth
pub mod Paths
pub mod Chosen
pub mod Joined
pub mod Events
