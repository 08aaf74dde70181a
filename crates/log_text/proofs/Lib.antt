pub mod LineLemmas
pub mod StripLemmas
