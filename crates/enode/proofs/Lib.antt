pub mod FaultLemmas
pub mod NewReplica
pub mod RulesOfNode
pub mod ReplaysRecords
pub mod Recovering
pub mod RulesWithoutReplica
