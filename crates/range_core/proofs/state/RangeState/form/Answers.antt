use Rattle.std.proofs.Common.{rules}
use Rattle.range_core.proofs.state.RangeState.form.Goals as goal

pub begin_next-packet-requires-clause-none : goal.begin_next-packet-requires-clause-none
begin_next-packet-requires-clause-none c = search rules
