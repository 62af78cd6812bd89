mod Asking
pub mod Counting
pub mod Joining
mod Splitting
