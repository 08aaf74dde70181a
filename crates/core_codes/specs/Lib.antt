pub mod Settings
pub mod Parts
pub mod Made
