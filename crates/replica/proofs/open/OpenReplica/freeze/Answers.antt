use Rattle.std.proofs.Common.{rules}
use Rattle.replica.proofs.open.OpenReplica.freeze.Goals as goal

pub returns : goal.returns
returns c = search rules
