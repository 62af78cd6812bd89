pub mod Following
pub mod Marks
pub mod NoFaults
pub mod Pointers
pub mod Sole
pub mod SoleNotes
pub mod StandsIn
