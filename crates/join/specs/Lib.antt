pub mod Join
pub mod Says
