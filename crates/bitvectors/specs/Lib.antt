pub mod Amounts
pub mod Signals
pub mod Leaves
pub mod Blasts
pub mod Reads
