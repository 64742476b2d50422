use Rattle.std.proofs.Common.{rules}
use Rattle.replica.proofs.open.OpenReplica.put.Goals as goal

pub returns-in-Ok-clause-fault : goal.returns-in-Ok-clause-fault
returns-in-Ok-clause-fault c = search rules
