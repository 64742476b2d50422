use Rattle.std.proofs.Common.{rules}
use Rattle.replica.proofs.replica.Replica.reserve.Goals as goal

pub returns-in-Frozen-clause-room : goal.returns-in-Frozen-clause-room
returns-in-Frozen-clause-room c = search rules
