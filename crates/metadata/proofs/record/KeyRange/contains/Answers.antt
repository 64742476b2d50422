use Rattle.std.proofs.Common.{rules}
use Rattle.metadata.proofs.record.KeyRange.contains.Goals as goal

pub returns-in-Some : goal.returns-in-Some
returns-in-Some c = search rules
