use Rattle.std.proofs.Common.{rules}
use Rattle.range.proofs.server.RangeServer.answered.Goals as goal

pub returns-else-not-is_answerer-clause-ok : goal.returns-else-not-is_answerer-clause-ok
returns-else-not-is_answerer-clause-ok c = search rules
