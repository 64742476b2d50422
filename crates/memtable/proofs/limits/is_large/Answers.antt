use Rattle.std.proofs.Common.{rules}
use Rattle.memtable.proofs.limits.is_large.Goals as goal

pub returns : goal.returns
returns c = search rules
