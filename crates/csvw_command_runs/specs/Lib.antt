pub mod Answers
pub mod Defaults
pub mod Groups
pub mod Lines
pub mod Plain
pub mod Resources
pub mod Status
