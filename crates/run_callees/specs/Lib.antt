pub mod Levels
pub mod Reading
pub mod Spoken
pub mod Watched
pub mod Printing
pub mod Bodies
