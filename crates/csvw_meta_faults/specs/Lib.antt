pub mod ColumnName
pub mod Flags
pub mod Fronts
pub mod Seen
pub mod SeenGroup
pub mod Targets
