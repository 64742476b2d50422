-- What an append to the file says of a step that ends as the append does.
use Rattle.std.proofs.Common.{◌≡◌, Option, Some, Result, Ok, Err, refl, ap, sym, subst, ◌∙◌}
use Rattle.block_types.specs.declared.record.Record.TheVariants.{Manage}
use Rattle.disk.proofs.Steps.{appends_with}
use Rattle.disk.specs.declared.device.DiskFault.{DiskFault}
use Rattle.disk.specs.Disk.{DiskState}
use Rattle.disk.specs.Filed.{Filed}
use Rattle.disk.specs.Appends.{Appends, Records, listed}
use Rattle.wire.specs.declared.packet.Step.{Step}
use Rattle.model_partition.specs.declared.map_record.MapRecord.{MapRecord}
use Rattle.model_partition.specs.RecordBytes.{spelled}
use Rattle.model_partition.specs.Map.{MapState}
use Rattle.model_partition.specs.Replay.{after_record, map_after}
use Rattle.pmap.specs.declared.plan.Plan.{Plan}
use Rattle.pmap.specs.PlanPerformed.{PlanPerformed}
use Rattle.pmap.specs.Plan.{written_by, outcome_of}

-- a record that was written, and what it makes of the table
pub rule_ok : {D : Type 0} (state : D → DiskState) (was is : MapState) (old new : Filed D) (plan : Plan) (r : MapRecord) (w : Result Unit DiskFault) →
    plan.new_record ≡ Some r → w ≡ Ok tt → is ≡ after_record was r → Appends state old new (Manage (spelled r)) w → PlanPerformed state was is old new (outcome_of was plan) (Ok plan.step)
rule_ok state was is old new plan r w new_record ok same h = record {
  after = same ∙ ap (map_after was) (sym new_record);
  packets = refl;
  notes = refl;
  same = tt;
  file = subst (λ (o : Option MapRecord). Records state old new (listed (written_by o)) (Ok plan.step)) (sym new_record) (appends_with state old new (Manage (spelled r)) (Ok plan.step) (rw (← ok) h));
}

pub rule_err : {D : Type 0} (state : D → DiskState) (was is : MapState) (old new : Filed D) (plan : Plan) (r : MapRecord) (w : Result Unit DiskFault) (x : DiskFault) →
    plan.new_record ≡ Some r → w ≡ Err x → is ≡ was → Appends state old new (Manage (spelled r)) w → PlanPerformed state was is old new (outcome_of was plan) (Err x)
rule_err state was is old new plan r w x new_record bad same h = record {
  after = tt;
  packets = tt;
  notes = tt;
  same = same;
  file = subst (λ (o : Option MapRecord). Records {T = Step} state old new (listed (written_by o)) (Err x)) (sym new_record) (appends_with state old new (Manage (spelled r)) (Err x) (rw (← bad) h));
}
