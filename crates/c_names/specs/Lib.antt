pub mod Kept
pub mod Needs
pub mod Parting
pub mod Trees
pub mod Working
