use Rattle.std.proofs.Common.{rules}
use Rattle.range_core.proofs.state.RangeState.awaits.Goals as goal

pub returns-else-trim_awaits : goal.returns-else-trim_awaits
returns-else-trim_awaits c = search rules
