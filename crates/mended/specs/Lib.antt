pub mod Endings
pub mod Promises
pub mod Settles
