pub mod Summaries
pub mod Needed
pub mod Placed
pub mod Wholes
pub mod Watched
pub mod Refused
