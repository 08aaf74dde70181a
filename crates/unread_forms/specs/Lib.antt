pub mod Needed
pub mod Forms
