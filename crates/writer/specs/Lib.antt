-- what a reader of the claims must believe
pub mod File
pub mod Write
pub mod Claims
-- what the contracts of the functions say, over words
pub mod Records
pub mod Answers
pub mod Head
