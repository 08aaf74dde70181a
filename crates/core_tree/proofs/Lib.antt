pub mod Equations
pub mod Induction
pub mod Scene
pub mod CutStates
pub mod CutCalls
pub mod CutValues
pub mod CutCodes
pub mod Cut
mod Rows
