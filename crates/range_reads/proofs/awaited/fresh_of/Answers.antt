use Rattle.std.proofs.Common.{rules}
use Rattle.range_reads.proofs.awaited.fresh_of.Goals as goal

pub returns-then-place-len-clause-other : goal.returns-then-place-len-clause-other
returns-then-place-len-clause-other c = search rules
