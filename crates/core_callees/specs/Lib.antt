pub mod Known
pub mod Bodies
pub mod Numbered
pub mod Watching
pub mod Choices
pub mod Knows
