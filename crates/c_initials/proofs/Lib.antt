pub mod Reversed
pub mod Tabled
pub mod Descending
pub mod Elements
pub mod Listed
