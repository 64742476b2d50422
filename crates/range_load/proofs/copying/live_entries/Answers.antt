use Rattle.std.proofs.Common.{rules}
use Rattle.range_load.proofs.copying.live_entries.Goals as goal

pub returns : goal.returns
returns c = search rules
