pub mod Servers
pub mod Seen
pub mod Runs
