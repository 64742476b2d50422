pub mod Blocks
pub mod Refusal
