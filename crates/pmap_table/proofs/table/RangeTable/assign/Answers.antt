use Rattle.std.proofs.Common.{List, ap, sym, ◌∙◌}
use Rattle.std.specs.Prelude.{map}
use Rattle.model_partition.specs.declared.map_record.MapRecord.TheVariants as records
use Rattle.model_partition.specs.declared.range_entry.RangeEntry.{RangeEntry}
use Rattle.model_partition.specs.Map.{MapState, changed_if, assigned}
use Rattle.pmap_table.proofs.Soundness.{fits_in, stays_sound, once_dropped, may_still}
use Rattle.pmap_table.proofs.table.RangeTable.assign.Goals as goal

pub assign-requires-clause-may : goal.assign-requires-clause-may
assign-requires-clause-may c =
    let m : MapState = record { ranges = c.self.inside.entries.items; next = c.self.inside.next } in
    may_still m c.args.range c.drop_pending.new.entries.items c.drop_pending.ensures (fits_in _ _ (records.Assign c.args.range c.args.server c.args.until) c.self.view_is c.requires)

pub assign-requires-clause-once : goal.assign-requires-clause-once
assign-requires-clause-once c =
    let m : MapState = record { ranges = c.self.inside.entries.items; next = c.self.inside.next } in
    once_dropped m c.args.range c.args.range c.drop_pending.new.entries.items c.self.invariant c.drop_pending.ensures

pub invariant_of-self : goal.invariant_of-self
invariant_of-self c =
    let m : MapState = record { ranges = c.self.inside.entries.items; next = c.self.inside.next } in
    stays_sound m (records.Assign c.args.range c.args.server c.args.until) c.assign.new.entries.items c.self.inside.next
    (fits_in _ _ (records.Assign c.args.range c.args.server c.args.until) c.self.view_is c.requires) c.self.invariant
    (ap (λ (l : List RangeEntry). let x : MapState = record { ranges = l; next = c.self.inside.next } in x)
    (sym (c.assign.ensures ∙ ap (map (changed_if c.args.range (assigned c.args.server c.args.until))) c.drop_pending.ensures)))
