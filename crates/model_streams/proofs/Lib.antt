pub mod Tests
pub mod Replay
pub mod Bounds
