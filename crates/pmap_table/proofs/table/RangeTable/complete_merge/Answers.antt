use Rattle.std.proofs.Common.{List, ap, sym}
use Rattle.model_partition.specs.declared.map_record.MapRecord.TheVariants as records
use Rattle.model_partition.specs.declared.range_entry.RangeEntry.{RangeEntry}
use Rattle.model_partition.specs.Map.{MapState}
use Rattle.pmap_table.proofs.Soundness.{fits_in, stays_sound}
use Rattle.pmap_table.proofs.table.RangeTable.complete_merge.Goals as goal

pub invariant_of-self : goal.invariant_of-self
invariant_of-self c =
    let m : MapState = record { ranges = c.self.inside.entries.items; next = c.self.inside.next } in
    stays_sound m (records.CompleteMerge c.args.left c.args.right) c.merge.new.entries.items c.self.inside.next (fits_in _ _ (records.CompleteMerge c.args.left c.args.right) c.self.view_is c.requires) c.self.invariant
    (ap (λ (l : List RangeEntry). let x : MapState = record { ranges = l; next = c.self.inside.next } in x) (sym c.merge.ensures))
