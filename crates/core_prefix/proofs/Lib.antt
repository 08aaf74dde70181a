pub mod ExprCalls
pub mod CodeCalls
pub mod CalleesAgree
pub mod ValuesAgree
pub mod CodesAgree
pub mod MarksBelow
pub mod RunsAgree
