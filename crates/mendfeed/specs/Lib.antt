pub mod Reader
pub mod Steps
pub mod Feeding
