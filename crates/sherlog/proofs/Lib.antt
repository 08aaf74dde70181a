pub mod Calls
pub mod CauseLemmas
pub mod Deciding
pub mod Outputs
pub mod Reading
pub mod Standing
