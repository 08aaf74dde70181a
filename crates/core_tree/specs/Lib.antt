pub mod States
pub mod Numbers
pub mod Memory
pub mod Callees
pub mod Values
pub mod Codes
pub mod Programs
pub mod Fits
