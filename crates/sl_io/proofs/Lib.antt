pub mod WriteLemmas
pub mod ShelfLemmas
