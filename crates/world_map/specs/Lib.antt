pub mod Outcome
pub mod Seen
