use Rattle.std.specs.BTreeMap.{get}
use Rattle.std.specs.Ordering.{nat_cmp}
use Rattle.manager_state.proofs.Entries.{lengths_shown}
use Rattle.manager_state.proofs.table.ManagerTable.lengths.Goals as goal

pub returns : goal.returns
returns c = rw (← c.self.view_is) (lengths_shown (get nat_cmp c.self.inside.lengths) c.self.inside.entries.items c.self.invariant)
