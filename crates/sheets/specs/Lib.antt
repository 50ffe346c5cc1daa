pub mod Sheet
pub mod Buffer
pub mod Putting
pub mod Verdict
