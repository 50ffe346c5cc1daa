pub mod Jump
pub mod Figures
