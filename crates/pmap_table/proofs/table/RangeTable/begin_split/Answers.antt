use Rattle.model_partition.specs.declared.map_record.MapRecord.TheVariants as records
use Rattle.model_partition.specs.Map.{MapState}
use Rattle.pmap_table.proofs.Soundness.{fits_in, split_sound, once_dropped}
use Rattle.pmap_table.proofs.table.RangeTable.begin_split.Goals as goal

pub begin-requires : goal.begin-requires
begin-requires c =
    let m : MapState = record { ranges = c.self.inside.entries.items; next = c.self.inside.next } in
    record { once = once_dropped m c.args.range c.args.range c.drop_pending.new.entries.items c.self.invariant c.drop_pending.ensures }

pub invariant_of-self : goal.invariant_of-self
invariant_of-self c =
    let m : MapState = record { ranges = c.self.inside.entries.items; next = c.self.inside.next } in
    split_sound m c.args.range c.args.key c.drop_pending.new.entries.items c.begin.new.entries.items c.next.inside.0 c.next-2.inside.0 c.next.view_is c.next-2.view_is c.drop_pending.ensures c.begin.ensures (fits_in _ _ (records.BeginSplit c.args.range c.args.key) c.self.view_is c.requires) c.self.invariant
