pub mod Saying
pub mod KindLaws
pub mod Marks
pub mod Loads
pub mod Forms
pub mod Assigns
pub mod Claims
