pub mod AllParts
pub mod Finding
pub mod Joining
pub mod Keys
pub mod PlanPieces
pub mod Running
