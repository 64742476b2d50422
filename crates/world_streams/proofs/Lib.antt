pub mod Entries
pub mod NodeList
pub mod EventSimulation
pub mod ServerOutput
