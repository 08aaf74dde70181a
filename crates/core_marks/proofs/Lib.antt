pub mod ExprMarks
pub mod CodeMarks
pub mod Loops
