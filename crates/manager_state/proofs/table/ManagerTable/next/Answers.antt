use Rattle.std.proofs.Common.{arith}
use Rattle.std.specs.BTreeMap.{get}
use Rattle.std.specs.Ordering.{nat_cmp}
use Rattle.manager_state.proofs.Entries.{length-from}
use Rattle.manager_state.proofs.table.ManagerTable.next.Goals as goal

pub returns : goal.returns
returns c = rw (← c.self.view_is) (omega (arith, c.len.ensures, length-from (get nat_cmp c.self.inside.lengths) 1 c.self.inside.entries.items))
