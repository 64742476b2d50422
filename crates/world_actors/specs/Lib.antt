pub mod Numbers
pub mod Inputs
pub mod Actors
pub mod Steps
