pub mod AutomaticLaws
pub mod WatchingLaws
pub mod CallLaws
pub mod Programs
