pub mod Checker
pub mod Answers
