pub mod Bodies
pub mod Control
pub mod Groups
pub mod Inside
pub mod Parsing
pub mod Turns
