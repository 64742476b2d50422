pub mod Histories
pub mod Prefixes
pub mod Tokens
