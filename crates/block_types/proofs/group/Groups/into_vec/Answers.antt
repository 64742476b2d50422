use Rattle.std.proofs.Common.{rules}
use Rattle.block_types.proofs.group.Groups.into_vec.Goals as goal

pub returns : goal.returns
returns c = search rules
