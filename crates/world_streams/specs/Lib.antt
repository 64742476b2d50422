pub mod Nodes
pub mod StreamLayer
pub mod ServersStep
