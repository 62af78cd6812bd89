pub mod Count
pub mod Counted
pub mod Lines
pub mod Streams
