use Rattle.std.proofs.Common.{sym, subst}
use Rattle.streams.specs.Table.{IsStrictlySorted}
use Rattle.streams.proofs.table.StreamTable.reserve_built.Goals as goal

pub invariant_of-self : goal.invariant_of-self
invariant_of-self c = subst IsStrictlySorted (sym c.reserve.ensures.items) c.self.invariant
