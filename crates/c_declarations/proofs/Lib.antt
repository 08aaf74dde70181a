pub mod BegunLaws
pub mod Heads
pub mod Signed
pub mod Wholes
