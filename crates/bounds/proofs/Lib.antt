-- What the proofs share.
pub mod Scan
pub mod Sides
pub mod Range
pub mod Outside
pub mod Moving
pub mod Agreeing
pub mod WindowLaws
pub mod LineLaws
