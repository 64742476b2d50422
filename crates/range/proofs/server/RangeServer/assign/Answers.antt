use Rattle.std.proofs.Common.{rules}
use Rattle.range.proofs.server.RangeServer.assign.Goals as goal

pub returns-clause-ok : goal.returns-clause-ok
returns-clause-ok c = search rules
