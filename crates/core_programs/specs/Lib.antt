pub mod Programs
pub mod Numberings
pub mod Marked
pub mod Offsets
pub mod Quiet
