pub mod Shells
pub mod Escapes
