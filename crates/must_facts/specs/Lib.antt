pub mod Verdicts
pub mod Inquiries
pub mod Knowing
