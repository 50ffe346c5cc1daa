pub mod Windows
pub mod Side
pub mod Movable
pub mod Widening
pub mod Line
