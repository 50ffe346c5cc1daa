pub mod GroundLaws
pub mod Answers
pub mod RefusalLaws
