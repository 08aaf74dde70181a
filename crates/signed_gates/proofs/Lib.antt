pub mod HalfLemmas
pub mod WidthLemmas
pub mod NetLemmas
