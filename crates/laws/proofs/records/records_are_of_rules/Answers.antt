use Rattle.laws_records.proofs.NodeRecords.{node_writes}
use Rattle.laws_records.proofs.ManagerRecords.{manager_writes}
use Rattle.laws_records.proofs.MapRecords.{map_writes}
use Rattle.laws.proofs.records.records_are_of_rules.Goals as goal

pub returns-clause-node : goal.returns-clause-node
returns-clause-node c = node_writes

pub returns-clause-manager : goal.returns-clause-manager
returns-clause-manager c = manager_writes

pub returns-clause-map : goal.returns-clause-map
returns-clause-map c = map_writes
