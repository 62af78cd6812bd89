pub mod Absolute
pub mod Bundles
pub mod Members
pub mod Resources
