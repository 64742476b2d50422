pub mod Soundness
pub mod Places
pub mod Routing
pub mod OneMoreRecord
