use Rattle.std.proofs.Common.{suc, ◌-◌, ◌≡◌, arith}
use Rattle.std.specs.BTreeMap.{get}
use Rattle.std.specs.Ordering.{nat_cmp}
use Rattle.streams.specs.Table.{streams_of}
use Rattle.manager_state.proofs.Entries.{replaced_at, replaced_past, have_replaced}
use Rattle.manager_state.proofs.table.ManagerTable.replace.Goals as goal

pub invariant_of-self : goal.invariant_of-self
invariant_of-self c = have_replaced c.self.inside.entries.items (get nat_cmp c.self.inside.lengths) c.self.invariant (c.args.extent - 1) c.of.result

pub returns-then-index-len : goal.returns-then-index-len
returns-then-index-len c =
    let at : c.args.extent ≡ suc (c.args.extent - 1) = omega arith in
    rw (← c.self.view_is) (replaced_at (get nat_cmp c.self.inside.lengths) c.self.inside.nodes c.self.inside.target (streams_of c.self.inside.streams) c.self.inside.entries.items c.self.invariant
    (c.args.extent - 1) c.args.extent at c.args.entry c.of.result c.of.ensures)

pub returns-else-index-len : goal.returns-else-index-len
returns-else-index-len c =
    let at : c.args.extent ≡ suc (c.args.extent - 1) = omega arith in
    rw (← c.self.view_is) (replaced_past (get nat_cmp c.self.inside.lengths) c.self.inside.nodes c.self.inside.target (streams_of c.self.inside.streams) c.self.inside.entries.items
    (c.args.extent - 1) c.args.extent at c.args.entry (omega (arith, c.len.ensures)))
