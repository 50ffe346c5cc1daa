pub mod Wanted
pub mod Checked
pub mod Promises
