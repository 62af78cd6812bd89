pub mod CellOf
pub mod Codes
pub mod Plain
pub mod HasForm
