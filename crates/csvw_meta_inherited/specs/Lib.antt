pub mod Datatype
pub mod Inherited
pub mod Names
pub mod TemplateText
