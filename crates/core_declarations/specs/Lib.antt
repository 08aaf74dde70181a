pub mod Hearing
pub mod Pairing
pub mod Walked
pub mod Items
