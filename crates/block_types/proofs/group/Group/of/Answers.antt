use Rattle.std.proofs.Common.{rules}
use Rattle.block_types.proofs.group.Group.of.Goals as goal

pub returns : goal.returns
returns c = search rules
