-- What the parts of a run add up to.
pub mod Money
pub mod Many
pub mod BareLaws
pub mod HeaderLaws
