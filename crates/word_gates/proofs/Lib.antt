pub mod NumberLemmas
pub mod WordLemmas
pub mod SumLemmas
pub mod CompareLemmas
pub mod WireLemmas
pub mod ProductLemmas
pub mod ShiftLemmas
pub mod QuotientLemmas
