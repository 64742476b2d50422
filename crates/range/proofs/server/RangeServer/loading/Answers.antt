use Rattle.std.proofs.Common.{rules}
use Rattle.range.proofs.server.RangeServer.loading.Goals as goal

pub returns-in-Some-get : goal.returns-in-Some-get
returns-in-Some-get c = search rules
