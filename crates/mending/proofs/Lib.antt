pub mod GridLaws
pub mod MissingLaws
pub mod MenderLaws
pub mod TurnLaws
