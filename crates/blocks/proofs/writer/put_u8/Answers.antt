use Rattle.std.proofs.Common.{rules}
use Rattle.blocks.specs.Record.{number}
use Rattle.blocks.proofs.writer.put_u8.Goals as goal

pub returns-clause-ok : goal.returns-clause-ok
unfolding number
returns-clause-ok c = search rules

pub returns-clause-one : goal.returns-clause-one
unfolding number
returns-clause-one c = search rules
