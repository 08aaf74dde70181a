pub mod FormLemmas
pub mod OnForms
