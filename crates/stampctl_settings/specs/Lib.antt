pub mod Counts
pub mod Documents
