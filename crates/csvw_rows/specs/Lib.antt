pub mod GivenLaws
pub mod NextRows
pub mod IgnoredRows
pub mod RowValue
pub mod RowsLending
pub mod RowsState
pub mod SourceState
pub mod Skips
