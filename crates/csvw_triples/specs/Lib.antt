pub mod Annotations
pub mod Blanks
pub mod NotesTriples
pub mod NoteGraph
pub mod OpeningTriples
pub mod Opening
pub mod Growing
pub mod Numbering
