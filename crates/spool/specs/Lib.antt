pub mod Lines
pub mod Spool
