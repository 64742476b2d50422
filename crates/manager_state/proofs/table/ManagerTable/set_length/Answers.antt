use Rattle.std.proofs.Common.{ℕ, Option, sym, ◌∙◌, ap, is_some, not}
use Rattle.std.specs.BTreeMap.{get}
use Rattle.std.specs.Ordering.{nat_cmp}
use Rattle.streams.specs.Table.{streams_of}
use Rattle.model_streams.specs.Maps.{entry_at}
use Rattle.manager_state.specs.Table.{ManagerTableValue, lengthened_if}
use Rattle.manager_state.specs.Extents.{extents_from}
use Rattle.manager_state.proofs.Entries.{table_with, shown_there, have_changed, relengthened, other_key}
use Rattle.manager_state.proofs.table.ManagerTable.set_length.Goals as goal

pub invariant_of-self-2 : goal.invariant_of-self-2
invariant_of-self-2 c =
    let new = c.in_ok-insert.ensures.updates in
    have_changed (get nat_cmp c.self.inside.lengths) (get nat_cmp c.insert.new.self) c.self.inside.entries.items c.args.extent (λ q apart. new.2 q (other_key c.args.extent q apart)) c.self.invariant
    (λ none. absurd (shown_there (get nat_cmp c.self.inside.lengths) c.self.inside.entries.items c.args.extent
    (ap is_some (ap (λ (t : ManagerTableValue). entry_at t.extents c.args.extent) c.self.view_is ∙ ap (λ (n : ℕ). entry_at c.args.self.now.extents n) (sym c.extent.view_is) ∙ sym c.entry.ensures) ∙ c.is_none.ensures ∙ ap not c.if-is_none.false) none))

pub returns-clause-ok : goal.returns-clause-ok
returns-clause-ok c =
    let new = c.in_ok-insert.ensures.updates in
    let extents = extents_from 1 c.self.inside.entries.items (get nat_cmp c.self.inside.lengths) in
    rw (← c.self.view_is) (relengthened (get nat_cmp c.self.inside.lengths) (get nat_cmp c.insert.new.self) c.self.inside.nodes c.self.inside.target (streams_of c.self.inside.streams) c.self.inside.entries.items c.args.extent
    (λ q apart. new.2 q (other_key c.args.extent q apart))
    (λ none. absurd (shown_there (get nat_cmp c.self.inside.lengths) c.self.inside.entries.items c.args.extent
    (ap is_some (ap (λ (t : ManagerTableValue). entry_at t.extents c.args.extent) c.self.view_is ∙ ap (λ (n : ℕ). entry_at c.args.self.now.extents n) (sym c.extent.view_is) ∙ sym c.entry.ensures) ∙ c.is_none.ensures ∙ ap not c.if-is_none.false) none))
    ∙ ap (λ (w : Option ℕ). lengthened_if (table_with c.self.inside.nodes c.self.inside.target (streams_of c.self.inside.streams) extents) c.args.extent (entry_at extents c.args.extent) w) new.1)
