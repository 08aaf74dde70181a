pub mod Passing
pub mod Alike
pub mod Answering
pub mod Rowed
pub mod Walked
pub mod Levelling
