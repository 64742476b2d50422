pub mod Dump
pub mod Faults
