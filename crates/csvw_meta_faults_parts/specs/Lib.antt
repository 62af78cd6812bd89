pub mod BareKeys
pub mod Items
pub mod Leaves
