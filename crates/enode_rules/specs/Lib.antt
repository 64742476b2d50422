pub mod KeptStep
pub mod Performs
pub mod Sealing
