pub mod Faults
pub mod Handling
pub mod Turns
pub mod Moments
pub mod Texts
pub mod Endings
