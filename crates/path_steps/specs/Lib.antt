pub mod Operands
pub mod Exits
pub mod Operators
pub mod Leaves
pub mod Memories
pub mod Branches
