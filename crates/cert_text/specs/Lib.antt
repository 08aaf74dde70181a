pub mod Lines
pub mod WorldTexts
pub mod WorldSteps
