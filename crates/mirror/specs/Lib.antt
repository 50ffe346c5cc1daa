pub mod Bytes
pub mod Exchanged
