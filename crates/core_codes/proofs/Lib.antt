pub mod Settings
pub mod LoopParts
pub mod Labels
pub mod Forms
pub mod InTurn
pub mod Arms
