pub mod Filled
pub mod Said
