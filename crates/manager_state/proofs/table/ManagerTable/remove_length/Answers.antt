use Rattle.std.proofs.Common.{ℕ, Option, sym, ◌∙◌, ap}
use Rattle.std.specs.BTreeMap.{get}
use Rattle.std.specs.Ordering.{nat_cmp}
use Rattle.streams.specs.Table.{streams_of}
use Rattle.model_streams.specs.Maps.{entry_at}
use Rattle.manager_state.specs.Table.{lengthened_if}
use Rattle.manager_state.specs.Extents.{extents_from}
use Rattle.manager_state.proofs.Entries.{table_with, have_changed, relengthened, other_key}
use Rattle.manager_state.proofs.table.ManagerTable.remove_length.Goals as goal

pub invariant_of-self : goal.invariant_of-self
invariant_of-self c =
    let new = c.remove.ensures.updates in
    have_changed (get nat_cmp c.self.inside.lengths) (get nat_cmp c.remove.new.self) c.self.inside.entries.items c.args.extent (λ q apart. new.2 q (other_key c.args.extent q apart)) c.self.invariant (λ none. new.1)

pub returns : goal.returns
returns c =
    let new = c.remove.ensures.updates in
    let extents = extents_from 1 c.self.inside.entries.items (get nat_cmp c.self.inside.lengths) in
    rw (← c.self.view_is) (relengthened (get nat_cmp c.self.inside.lengths) (get nat_cmp c.remove.new.self) c.self.inside.nodes c.self.inside.target (streams_of c.self.inside.streams) c.self.inside.entries.items c.args.extent
    (λ q apart. new.2 q (other_key c.args.extent q apart)) (λ none. new.1 ∙ sym (c.self.invariant c.args.extent none))
    ∙ ap (λ (w : Option ℕ). lengthened_if (table_with c.self.inside.nodes c.self.inside.target (streams_of c.self.inside.streams) extents) c.args.extent (entry_at extents c.args.extent) w) new.1)
