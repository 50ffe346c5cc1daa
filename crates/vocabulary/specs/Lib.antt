pub mod Interval
pub mod Refusals
pub mod Grounds
pub mod Direction
pub mod Sample
pub mod Stage
