use Rattle.std.proofs.Common.{rules}
use Rattle.replica.proofs.open.OpenReplica.new.Goals as goal

pub returns : goal.returns
returns c = search rules
