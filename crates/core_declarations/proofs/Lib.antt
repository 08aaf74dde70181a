pub mod InOrder
pub mod Declarators
pub mod Pairs
pub mod Walking
pub mod DesignatedParts
pub mod Fillings
