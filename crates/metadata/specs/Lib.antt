pub mod Fold
pub mod Keys
pub mod Reading
pub mod Record
