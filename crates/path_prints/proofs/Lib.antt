pub mod SplitLemmas
pub mod SayLemmas
pub mod ArgumentLemmas
pub mod ConditionLemmas
pub mod WatchLemmas
pub mod PrintLemmas
pub mod LogLemmas
