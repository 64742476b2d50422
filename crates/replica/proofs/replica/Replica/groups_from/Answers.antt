use Rattle.std.proofs.Common.{rules}
use Rattle.replica.proofs.replica.Replica.groups_from.Goals as goal

pub returns : goal.returns
returns c = search rules
