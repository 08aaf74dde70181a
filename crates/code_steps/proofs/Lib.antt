pub mod Places
pub mod Items
pub mod Laying
pub mod Storing
pub mod Giving
