pub mod ManagerNotes
pub mod ManagerSimulation
pub mod ManagerCalls
