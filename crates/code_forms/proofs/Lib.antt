pub mod Turns
pub mod Choosing
pub mod Statements
pub mod Declaring
pub mod Marks
