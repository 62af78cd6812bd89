pub mod Commands
pub mod Explained
pub mod Shown
