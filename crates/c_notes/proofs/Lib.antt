pub mod Parts
pub mod Passing
pub mod EachForm
pub mod Found
pub mod OnCalls
