pub mod Frames
pub mod Settings
pub mod Running
pub mod Below
