use Rattle.std.proofs.Common.{rules}
use Rattle.metadata.proofs.fold.Metadata.first.Goals as goal

pub returns : goal.returns
returns c = search rules
