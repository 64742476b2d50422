use Rattle.std.proofs.Common.{rules}
use Rattle.streams.proofs.table.StreamTable.create.Goals as goal

pub returns-then-is_some-clause-ok : goal.returns-then-is_some-clause-ok
returns-then-is_some-clause-ok c = search rules

pub returns-then-is_some-clause-free : goal.returns-then-is_some-clause-free
returns-then-is_some-clause-free c = search rules
