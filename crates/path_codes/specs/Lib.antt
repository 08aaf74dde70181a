pub mod Walks
pub mod Below
pub mod Courses
pub mod Turns
pub mod Settings
pub mod Selecting
pub mod Bodies
