pub mod Telling
pub mod WholeInput
