pub mod Documents
pub mod Ignored
pub mod Judged
pub mod Keeping
pub mod Parts
pub mod Permitted
pub mod Properties
pub mod Sources
