pub mod Calls
pub mod Prefixes
pub mod Runs
