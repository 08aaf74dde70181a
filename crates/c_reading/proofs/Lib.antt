pub mod Lists
pub mod Tails
