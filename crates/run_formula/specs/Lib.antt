pub mod Arguments
pub mod Watched
pub mod Sighted
pub mod Starts
pub mod Settings
pub mod Whole
pub mod Questions
pub mod Formula
