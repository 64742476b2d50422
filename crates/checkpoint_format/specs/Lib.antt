pub mod Page
pub mod Walk
pub mod Writing
pub mod Index
pub mod Starts
