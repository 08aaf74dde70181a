pub mod CallsTold
pub mod Tellings
pub mod Relations
