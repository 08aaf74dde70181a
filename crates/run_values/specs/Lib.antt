pub mod Types
pub mod Steps
pub mod Forms
pub mod Places
pub mod Arguments
