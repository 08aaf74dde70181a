pub mod Numbers
pub mod FactTexts
pub mod VerdictLines
pub mod WorldTexts
pub mod HeadLines
pub mod Reports
