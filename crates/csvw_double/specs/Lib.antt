pub mod Digits
pub mod Doubles
pub mod Forms
pub mod Order
pub mod Places
pub mod Values
