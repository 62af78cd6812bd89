pub mod Digits
pub mod Values
pub mod Forms
pub mod Timeline
pub mod Order
