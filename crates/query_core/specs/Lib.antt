pub mod Claims
pub mod Replies
