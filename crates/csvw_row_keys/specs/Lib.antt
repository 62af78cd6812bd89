pub mod Listings
pub mod RecordLaws
pub mod RowRecords
pub mod Spelling
pub mod SpellingLaws
