pub mod Values
pub mod Tries
pub mod Moves
pub mod SeenRange
