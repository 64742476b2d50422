pub mod Line
pub mod Reports
pub mod Telling
