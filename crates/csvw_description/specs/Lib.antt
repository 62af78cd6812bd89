pub mod Inherited
pub mod Keys
pub mod Name
pub mod Nulls
pub mod Plannable
pub mod Unknown
