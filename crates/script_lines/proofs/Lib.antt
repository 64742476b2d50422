pub mod Beginnings
pub mod Copying
pub mod Lists
pub mod Names
pub mod TextLines
