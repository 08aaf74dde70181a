pub mod Reading
pub mod Parsing
pub mod Digits
pub mod Writing
pub mod KindLemmas
pub mod TextLaws
