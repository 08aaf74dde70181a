pub mod Cuts
pub mod Signed
pub mod WordLaws
pub mod Tables
pub mod Tried
