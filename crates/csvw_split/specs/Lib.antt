pub mod Adding
pub mod Cuts
pub mod FileState
pub mod Front
pub mod Passing
pub mod Split
