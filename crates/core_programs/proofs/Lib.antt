pub mod Starts
pub mod Programs
pub mod Machines
pub mod Marked
pub mod OffsetLaws
pub mod QuietSteps
pub mod QuietParts
pub mod Quiet
