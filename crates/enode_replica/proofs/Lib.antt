pub mod Covering
pub mod Filling
pub mod Queued
pub mod Written
