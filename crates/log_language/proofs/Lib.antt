pub mod Says
pub mod CallTexts
pub mod ValueTexts
pub mod CodeTexts
pub mod LoopTexts
pub mod OnValues
pub mod OnCodes
