pub mod Arguments
pub mod Says
pub mod Watches
pub mod Prints
