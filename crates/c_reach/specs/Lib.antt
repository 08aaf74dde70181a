pub mod Summaries
pub mod Reaching
