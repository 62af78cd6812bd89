pub mod Drafts
pub mod Groupings
pub mod Kinds
pub mod Names
