pub mod Steps
pub mod Benches
pub mod Heads
