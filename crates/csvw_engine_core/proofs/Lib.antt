mod Ending
mod Faults
pub mod Going
mod Headers
pub mod Joining
mod Lists
mod Moving
mod Own
mod SkipLemmas
mod Steps
