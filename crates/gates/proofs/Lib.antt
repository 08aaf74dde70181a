pub mod GateLemmas
pub mod BitLemmas
pub mod CellLemmas
