use Rattle.std.proofs.Common.{rules}
use Rattle.range.proofs.server.RangeServer.opening.Goals as goal

pub returns-clause-packets : goal.returns-clause-packets
returns-clause-packets c = search rules
