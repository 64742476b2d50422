pub mod Texts
pub mod Playing
pub mod Drafts
pub mod Refusing
pub mod Setups
pub mod Writing
