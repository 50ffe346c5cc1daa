pub mod ReaderLaws
pub mod RowLaws
pub mod UsedLaws
