pub mod Numbers
pub mod Partitions
pub mod Spelling
pub mod Replaying
pub mod Extents
