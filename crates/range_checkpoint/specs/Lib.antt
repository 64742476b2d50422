pub mod Steps
pub mod Records
pub mod Trims
pub mod Combining
