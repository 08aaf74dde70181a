pub mod Around
pub mod Reaching
pub mod Accesses
pub mod Steps
pub mod Waits
pub mod Calling
