use Rattle.std.proofs.Common.{rules}
use Rattle.range_core.proofs.state.RangeState.lease_ended.Goals as goal

pub returns : goal.returns
returns c = search rules
