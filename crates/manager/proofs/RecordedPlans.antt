-- What an append to the file says of a step that ends as the append does.
use Rattle.std.proofs.Common.{rules, ◌≡◌, ℕ, Option, Some, None, Result, Ok, Err, refl, ap, sym, subst, ◌∙◌}
use Rattle.block_types.specs.declared.record.Record.{Record}
use Rattle.block_types.specs.declared.record.Record.TheVariants.{Manage}
use Rattle.disk.proofs.Steps.{appends_with}
use Rattle.disk.specs.declared.device.DiskFault.{DiskFault}
use Rattle.disk.specs.declared.device.DiskFault.TheVariants.{Memory}
use Rattle.disk.specs.Disk.{DiskState, IsUntouched}
use Rattle.disk.specs.Filed.{Filed}
use Rattle.disk.specs.Appends.{Appends}
use Rattle.disk.specs.Appends.{Records}
use Rattle.wire.specs.declared.packet.Step.{Step}
use Rattle.model_streams.specs.declared.extent.Extent.{Extent}
use Rattle.model_streams.specs.declared.manager_record.ManagerRecord.{ManagerRecord}
use Rattle.model_streams.specs.RecordBytes.{spelled}
use Rattle.model_streams.specs.Maps.{entry_at}
use Rattle.model_streams.specs.Manager.{forgotten, forgotten_if, sealed_in}
use Rattle.manager_state.specs.Table.{ManagerTableState, with_entry, sealed_at, table_after}
use Rattle.manager_rules.specs.declared.plan.Change.{Change}
use Rattle.manager_rules.specs.declared.plan.Change.TheVariants.{Write, Replace}
use Rattle.manager_rules.specs.declared.plan.Plan.{Plan}
use Rattle.manager_rules.specs.Plan.{changed_by, written_by, CanChange}
use Rattle.manager.specs.PlanPerformed.{PlanPerformed}
use Rattle.manager.specs.Performs.{listed}

-- a record that was written, and what it makes of the table
pub rule_ok : {D : Type 0} (state : D → DiskState) (was is : ManagerTableState) (old new : Filed D) (plan : Plan) (r : ManagerRecord) (w : Result Unit DiskFault) →
    plan.change ≡ Write r → w ≡ Ok tt → is ≡ table_after was r → Appends state old new (Manage (spelled r)) w → PlanPerformed state was is old new plan (Ok plan.step)
rule_ok state was is old new plan r w change ok same h = record {
  after = same ∙ ap (changed_by was) (sym change);
  step = refl;
  same = tt;
  file = subst (λ (c : Change). Records state old new (listed (written_by c)) (Ok plan.step)) (sym change) (appends_with state old new (Manage (spelled r)) (Ok plan.step) (rw (← ok) h));
}

pub rule_err : {D : Type 0} (state : D → DiskState) (was is : ManagerTableState) (old new : Filed D) (plan : Plan) (r : ManagerRecord) (w : Result Unit DiskFault) (x : DiskFault) →
    plan.change ≡ Write r → w ≡ Err x → is ≡ was → Appends state old new (Manage (spelled r)) w → PlanPerformed state was is old new plan (Err x)
rule_err state was is old new plan r w x change bad same h = record {
  after = tt;
  step = tt;
  same = same;
  file = subst (λ (c : Change). Records {T = Step} state old new (listed (written_by c)) (Err x)) (sym change) (appends_with state old new (Manage (spelled r)) (Err x) (rw (← bad) h));
}

-- ---- another extent, without a record

same_length : (o : Option Extent) (x : Extent) → forgotten_if o ≡ Some (forgotten x) → sealed_in o ≡ x.sealed
same_length None x is = absurd cc
same_length (Some y) x is = let same : forgotten y ≡ forgotten x = cc in ap (λ (z : Extent). z.sealed) same

-- its length is the one that it had
pub rule_replaced : {D : Type 0} (state : D → DiskState) (was is : ManagerTableState) (f : Filed D) (plan : Plan) (e : ℕ) (x : Extent) →
    plan.change ≡ Replace e x → is ≡ with_entry was e (record x { sealed = sealed_at was.extents e }) → CanChange was plan.change → PlanPerformed state was is f f plan (Ok plan.step)
rule_replaced state was is f plan e x change same can = record {
  after = same ∙ ap (λ (w : Option ℕ). with_entry was e (record x { sealed = w })) (same_length (entry_at was.extents e) x (subst (CanChange was) change can)) ∙ ap (changed_by was) (sym change);
  step = refl;
  same = tt;
  file = subst (λ (c : Change). Records state f f (listed (written_by c)) (Ok plan.step)) (sym change) (refl, (λ p. absurd cc));
}

-- ---- without memory nothing is written

short_record : {D : Type 0} (state : D → DiskState) (f : Filed D) (r : Record) → Appends {T = Step} state f f r (Err Memory)
short_record state f r = record {
  ok = tt;
  durable = tt;
  any_moment = λ no. absurd (no refl);
  stands = λ no. absurd (no refl);
  memory = λ p. record { disk = untouched (state f.disk); stopped = refl; version = refl; records = refl };
  failed = λ p. absurd cc;
  either = λ p. absurd cc;
  version = refl;
  stop = λ n keep told one four. ((λ p. absurd cc), (λ p. absurd cc));
  later = λ n keep told four. ((λ p. absurd cc), tt);
  steady = λ told. ((λ p. absurd cc), told);
  sure = refl;
}
  where
    untouched : (d : DiskState) → IsUntouched d d
    untouched d = search rules

short_records : {D : Type 0} (state : D → DiskState) (f : Filed D) (o : Option Record) → Records {T = Step} state f f (listed o) (Err Memory)
short_records state f None = (refl, (λ p. absurd cc))
short_records state f (Some r) = short_record state f r

pub short : {D : Type 0} (state : D → DiskState) (t : ManagerTableState) (f : Filed D) (plan : Plan) → PlanPerformed state t t f f plan (Err Memory)
short state t f plan = record { after = tt; step = tt; same = refl; file = short_records state f (written_by plan.change) }
