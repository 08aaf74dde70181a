pub mod Unevaluated
pub mod EachForm
pub mod EachTree
pub mod PassingLaws
pub mod CallLaws
