use Rattle.std.proofs.Common.{rules}
use Rattle.block_types.proofs.group.Block.as_slice.Goals as goal

pub returns-clause-value : goal.returns-clause-value
returns-clause-value c = search rules
