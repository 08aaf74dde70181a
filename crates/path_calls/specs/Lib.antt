pub mod Begun
pub mod Outside
pub mod Places
pub mod Replies
pub mod Fills
pub mod FillCalls
pub mod Allocations
