pub mod Same
pub mod Found
pub mod KindMap
pub mod Knowing
pub mod Usual
