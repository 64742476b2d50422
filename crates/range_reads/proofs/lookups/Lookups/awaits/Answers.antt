use Rattle.std.proofs.Common.{rules}
use Rattle.range_reads.proofs.lookups.Lookups.awaits.Goals as goal

pub returns : goal.returns
returns c = search rules
