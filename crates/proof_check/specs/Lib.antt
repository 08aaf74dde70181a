pub mod Steps
pub mod Propagation
pub mod Refutations
pub mod Room
pub mod Places
pub mod Marked
