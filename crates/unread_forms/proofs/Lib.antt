pub mod SameNeeded
