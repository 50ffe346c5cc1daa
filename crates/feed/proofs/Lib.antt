pub mod DeskLaws
pub mod ReaderLaws
pub mod Feeding
pub mod UsedLaws
