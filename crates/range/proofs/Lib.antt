pub mod Entries
pub mod Checkpoints
pub mod Settled
pub mod Merged
pub mod BothRanges
