pub mod formers
pub mod Class
pub mod Collapse
pub mod Gives
pub mod Language
pub mod Spaces
pub mod Strip
