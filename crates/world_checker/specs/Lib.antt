pub mod Acknowledged
pub mod Checking
pub mod Links
pub mod Orderly
pub mod Starts
pub mod Telling
