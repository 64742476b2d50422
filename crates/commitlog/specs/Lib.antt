pub mod Running
pub mod Record
pub mod Reading
pub mod Sizes
pub mod Growing
pub mod Places
pub mod Replay
