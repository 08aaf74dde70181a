pub mod Stacks
pub mod Made
pub mod Heads
