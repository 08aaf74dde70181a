pub mod Labeling
pub mod Least
pub mod Loops
pub mod Plain
pub mod Repeats
pub mod Same
