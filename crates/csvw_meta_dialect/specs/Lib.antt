pub mod Dialect
