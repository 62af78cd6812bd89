pub mod Annotated
pub mod Faults
pub mod Heads
pub mod Skipping
pub mod Soundness
pub mod Stepping
pub mod Stops
pub mod Tables
