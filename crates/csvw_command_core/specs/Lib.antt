pub mod Asked
pub mod Mistakes
pub mod Resources
pub mod StandardInput
pub mod Joined
pub mod Table
