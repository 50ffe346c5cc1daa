pub mod Rounded
pub mod Added
pub mod Promises
pub mod Steady
pub mod SharpInput
pub mod Sharpest
