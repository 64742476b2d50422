pub mod Lengths
pub mod Replaying
pub mod Copying
pub mod Searching
pub mod Buffering
pub mod Placing
pub mod Spelling
pub mod Shown
