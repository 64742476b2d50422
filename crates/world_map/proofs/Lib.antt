pub mod MapCalls
pub mod MapSimulation
pub mod ShownRules
