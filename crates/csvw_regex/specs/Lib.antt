pub mod Expressions
pub mod Automata
