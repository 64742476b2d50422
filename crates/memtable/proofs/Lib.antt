pub mod Entries
pub mod Undo
pub mod Words
