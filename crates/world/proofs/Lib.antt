pub mod ClusterSimulation
pub mod RunInvariant
