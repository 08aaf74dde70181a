pub mod Arms
pub mod Bindings
pub mod Loops
pub mod NamesOf
pub mod SameNeeds
pub mod Stacks
