pub mod LineLemmas
pub mod EntryLemmas
pub mod VersionLemmas
pub mod SaidLemmas
pub mod WritingLemmas
pub mod WorldLaws
pub mod TableLemmas
pub mod ReadingLemmas
