pub mod Texts
pub mod Walk
pub mod Writing
pub mod Indexes
pub mod Pages
pub mod Starts
