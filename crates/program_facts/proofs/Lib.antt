pub mod Gathering
pub mod LineLaws
