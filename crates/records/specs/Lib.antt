pub mod Tape
pub mod Account
