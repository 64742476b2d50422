use Rattle.std.proofs.Common.{rules}
use Rattle.blocks.specs.Record.{number}
use Rattle.blocks.proofs.writer.put_u64.Goals as goal

pub returns-clause-ok : goal.returns-clause-ok
unfolding number
returns-clause-ok c = search rules
