pub mod Summaries
pub mod Renaming
pub mod Composing
