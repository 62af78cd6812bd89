pub mod ColumnNames
pub mod Described
pub mod ForeignKeys
pub mod Keys
pub mod Naming
pub mod References
