pub mod Assumed
pub mod Asked
pub mod Noted
