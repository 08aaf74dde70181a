pub mod Declares
pub mod Says
