pub mod Desk
pub mod Settle
pub mod Serving
