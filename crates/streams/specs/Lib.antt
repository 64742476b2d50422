pub mod Streams
pub mod Table
pub mod Faults
pub mod Garbage
