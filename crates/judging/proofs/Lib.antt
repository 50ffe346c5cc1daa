pub mod JudgedLaws
pub mod WantedLaws
pub mod KeptLaws
