pub mod Lists
pub mod Renamed
pub mod Roots
pub mod Passed
pub mod Resumed
pub mod Composed
