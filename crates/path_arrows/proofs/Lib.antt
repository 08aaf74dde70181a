pub mod Stepped
pub mod Sorting
pub mod Living
