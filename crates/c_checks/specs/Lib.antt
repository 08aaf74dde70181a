pub mod Refusals
pub mod Rules
pub mod PlainTypes
pub mod Calls
pub mod Takings
