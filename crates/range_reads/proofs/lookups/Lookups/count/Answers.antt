use Rattle.std.proofs.Common.{rules}
use Rattle.range_reads.proofs.lookups.Lookups.count.Goals as goal

pub returns-clause-value : goal.returns-clause-value
returns-clause-value c = search rules
