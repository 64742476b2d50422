use Rattle.std.proofs.Common.{List, ap, sym}
use Rattle.model_partition.specs.declared.map_record.MapRecord.TheVariants as records
use Rattle.model_partition.specs.declared.range_entry.RangeEntry.{RangeEntry}
use Rattle.model_partition.specs.Map.{MapState}
use Rattle.pmap_table.proofs.Soundness.{fits_in, stays_sound}
use Rattle.pmap_table.proofs.table.RangeTable.complete_split.Goals as goal

pub invariant_of-self : goal.invariant_of-self
invariant_of-self c =
    let m : MapState = record { ranges = c.self.inside.entries.items; next = c.self.inside.next } in
    stays_sound m (records.CompleteSplit c.args.range) c.split.new.entries.items c.self.inside.next (fits_in _ _ (records.CompleteSplit c.args.range) c.self.view_is c.requires.fits) c.self.invariant
    (ap (λ (l : List RangeEntry). let x : MapState = record { ranges = l; next = c.self.inside.next } in x) (sym c.split.ensures))
