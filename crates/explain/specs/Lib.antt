pub mod Explained
pub mod Sharpest
