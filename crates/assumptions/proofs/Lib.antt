pub mod NameSets
pub mod Telling
pub mod SameAsked
pub mod AsDefined
pub mod Rows
