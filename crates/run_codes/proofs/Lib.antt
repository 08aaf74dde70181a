pub mod Turning
pub mod Bound
pub mod Choosing
pub mod Sequences
pub mod Living
pub mod Forms
