pub mod OperatorLemmas
pub mod SignalLemmas
pub mod WalkLemmas
pub mod FormulaLemmas
pub mod MoreLemmas
pub mod DecodeLemmas
pub mod ReadLemmas
