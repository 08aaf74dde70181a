pub mod Reading
pub mod Values
pub mod Dropping
pub mod Printing
pub mod Meeting
pub mod Forming
pub mod Watching
pub mod Levels
