pub mod Fields
pub mod Contracts
pub mod Setpoints
pub mod Printing
pub mod Listing
pub mod Yielding
