use Rattle.std.proofs.Common.{rules}
use Rattle.range_core.proofs.state.RangeState.of.Goals as goal

pub returns : goal.returns
returns c = search rules
