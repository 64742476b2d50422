use Rattle.std.proofs.Common.{rules}
use Rattle.replica.proofs.replica.Replica.len.Goals as goal

pub returns-in-Frozen-clause-value : goal.returns-in-Frozen-clause-value
returns-in-Frozen-clause-value c = search rules

pub returns-in-Frozen-clause-target : goal.returns-in-Frozen-clause-target
returns-in-Frozen-clause-target c = search rules
