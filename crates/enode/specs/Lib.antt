pub mod Node
pub mod Faults
pub mod Performs
pub mod Recovery
