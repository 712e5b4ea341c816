pub mod Field
pub mod Syntax
pub mod Grammar
pub mod Answers
pub mod Entries
pub mod Places
pub mod Parts
pub mod Verdicts
