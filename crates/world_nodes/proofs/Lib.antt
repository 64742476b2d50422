pub mod Seen
pub mod NodeSimulation
pub mod Stopping
