pub mod Nodes
pub mod Built
