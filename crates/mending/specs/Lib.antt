pub mod Mending
pub mod Mender
