use Rattle.std.proofs.Common.{ap, ◌∙◌}
use Rattle.std.specs.Prelude.{map}
use Rattle.model_partition.specs.declared.map_record.MapRecord.TheVariants as records
use Rattle.model_partition.specs.Map.{MapState, dropped_if, drop_pending}
use Rattle.model_partition.proofs.Replaying.{drop_sound}
use Rattle.pmap_table.proofs.Soundness.{fits_in, merge_sound, once_dropped}
use Rattle.pmap_table.proofs.table.RangeTable.begin_merge.Goals as goal

pub begin-requires : goal.begin-requires
begin-requires c =
    let m : MapState = record { ranges = c.self.inside.entries.items; next = c.self.inside.next } in
    record { once = once_dropped (drop_pending m c.args.right) c.args.left c.args.left c.drop_pending-2.new.entries.items (drop_sound m c.args.right c.self.invariant) (c.drop_pending-2.ensures ∙ ap (map (dropped_if c.args.left)) c.drop_pending.ensures) }

pub invariant_of-self : goal.invariant_of-self
invariant_of-self c =
    let m : MapState = record { ranges = c.self.inside.entries.items; next = c.self.inside.next } in
    merge_sound m c.args.left c.args.right c.drop_pending-2.new.entries.items c.begin.new.entries.items c.next.inside.0 c.next.view_is (c.drop_pending-2.ensures ∙ ap (map (dropped_if c.args.left)) c.drop_pending.ensures) c.begin.ensures (fits_in _ _ (records.BeginMerge c.args.left c.args.right) c.self.view_is c.requires) c.self.invariant
