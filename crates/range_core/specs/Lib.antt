pub mod Replies
pub mod Steps
pub mod Waiters
pub mod Phases
pub mod Forming
