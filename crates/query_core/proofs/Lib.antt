pub mod BitLemmas
pub mod QueryLemmas
pub mod KeepLemmas
pub mod OtherLemmas
pub mod ReplyLemmas
