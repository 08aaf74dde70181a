pub mod Knowing
pub mod Seeing
pub mod Designating
pub mod Filling
pub mod ItemLaws
pub mod Declaring
pub mod DeclaredItems
