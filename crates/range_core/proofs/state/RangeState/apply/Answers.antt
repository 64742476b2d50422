use Rattle.std.proofs.Common.{rules}
use Rattle.range_core.proofs.state.RangeState.apply.Goals as goal

pub returns-clause-ok : goal.returns-clause-ok
returns-clause-ok c = search rules
