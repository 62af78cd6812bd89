pub mod Documents
pub mod Files
pub mod ResourceFiles
