pub mod Powers
pub mod Claims
pub mod Blank
pub mod Room
pub mod Views
