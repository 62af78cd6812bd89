pub mod Joining
pub mod Reading
pub mod Refusals
pub mod ReportLaws
