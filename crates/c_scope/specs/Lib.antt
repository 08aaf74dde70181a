pub mod Local
pub mod Kinds
pub mod Known
