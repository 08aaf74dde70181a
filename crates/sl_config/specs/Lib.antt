pub mod Generated
pub mod Words
