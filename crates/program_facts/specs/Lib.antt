pub mod Entries
pub mod Prints
pub mod Listing
