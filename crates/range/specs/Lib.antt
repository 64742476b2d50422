pub mod ServerStep
pub mod Faults
