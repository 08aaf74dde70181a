pub mod InOrder
pub mod Objects
pub mod Making
