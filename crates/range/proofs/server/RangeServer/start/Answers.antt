use Rattle.std.proofs.Common.{rules}
use Rattle.range.proofs.server.RangeServer.start.Goals as goal

pub returns : goal.returns
returns c = search rules
