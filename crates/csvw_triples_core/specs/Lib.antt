pub mod Lent
pub mod Literal
pub mod Taking
pub mod VecSink
