pub mod Bounds
pub mod Cuts
pub mod Cutters
pub mod Drafts
pub mod FieldLaws
pub mod FieldText
pub mod Marked
