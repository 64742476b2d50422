pub mod Limits
pub mod Cell
pub mod Entries
pub mod Layers
pub mod Words
