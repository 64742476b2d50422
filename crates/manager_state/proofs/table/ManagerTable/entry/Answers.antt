use Rattle.std.proofs.Common.{List, sym, ◌∙◌, ap, Some}
use Rattle.std.specs.BTreeMap.{get}
use Rattle.std.specs.Ordering.{nat_cmp}
use Rattle.model_streams.specs.Maps.{entry_at}
use Rattle.manager_state.specs.declared.entry.ExtentEntry.{ExtentEntry}
use Rattle.manager_state.proofs.Entries.{shown_none, shown_some}
use Rattle.manager_state.proofs.table.ManagerTable.entry.Goals as goal

pub returns-in-None : goal.returns-in-None
returns-in-None c =
    rw (← c.self.view_is) (shown_none (get nat_cmp c.self.inside.lengths) c.self.inside.entries.items c.args.extent
    (ap (λ (l : List ExtentEntry). entry_at l c.args.extent) (sym c.deref.ensures.value) ∙ sym c.entry_at.ensures ∙ c.in-None.is))

pub returns-in-Some : goal.returns-in-Some
returns-in-Some c =
    rw (← c.self.view_is) (ap (λ x. Some x) c.with_length.ensures
    ∙ shown_some (get nat_cmp c.self.inside.lengths) c.self.inside.entries.items c.args.extent c.in-Some.entry c.copied-sealed.result
    (ap (λ (l : List ExtentEntry). entry_at l c.args.extent) (sym c.deref.ensures.value) ∙ sym c.entry_at.ensures ∙ c.in-Some.is) (c.copied-sealed.ensures ∙ c.get.ensures.value))
