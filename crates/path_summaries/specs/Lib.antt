pub mod Tours
pub mod Tables
pub mod Walking
pub mod Levels
