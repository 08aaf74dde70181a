pub mod Making
pub mod EachOuter
pub mod Offsets
pub mod NeedLaws
pub mod Together
pub mod Watching
pub mod PreludeCounts
pub mod Refusing
