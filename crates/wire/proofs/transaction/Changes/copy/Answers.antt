use Rattle.std.proofs.Common.{rules}
use Rattle.wire.proofs.transaction.Changes.copy.Goals as goal

pub returns : goal.returns
returns c = search rules
