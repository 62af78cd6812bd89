pub mod Cells
mod Chains
pub mod Empty
mod LastPiece
mod Lines
mod NoPlans
mod Sending
