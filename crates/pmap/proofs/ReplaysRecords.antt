-- The table stays what the map's records make of it.
use Rattle.std.proofs.Common.{◌≡◌, ◌<◌, Bool, true, List, ◌++◌, Result, Ok, Err, inl, sym, subst}
use Rattle.std.specs.Prelude.{IsErrOf}
use Rattle.block_types.specs.declared.record.Record.{Record}
use Rattle.disk.proofs.Made.{made_broken}
use Rattle.disk.proofs.Steps.{records_ok, records_short, records_failed}
use Rattle.disk.specs.declared.device.DiskFault.{DiskFault}
use Rattle.disk.specs.declared.device.DiskFault.TheVariants.{Failed, Memory}
use Rattle.disk.specs.Disk.{DiskState}
use Rattle.disk.specs.Filed.{Filed}
use Rattle.disk.specs.Appends.{listed}
use Rattle.wire.specs.declared.packet.Step.{Step}
use Rattle.model_streams.specs.Outcome.{Outcome}
use Rattle.model_partition.specs.Map.{MapState}
use Rattle.model_partition.specs.Replay.{map_fits}
use Rattle.pmap.specs.PlanPerformed.{PlanPerformed}
use Rattle.pmap.specs.MapWithFile.{MapWithFile, MakesMap, HoldsMap, held_of}
use Rattle.pmap.specs.Performs.{MapPerforms}

-- ---- a rule

pub performed : {D : Type 0} (state : D → DiskState) (t u : MapState) (old new : Filed D) (o : Outcome MapState) (w : Result Step DiskFault) → PlanPerformed state t u old new o w →
    MakesMap (old.records ++ listed o.written) o.after → MapPerforms state (held_of t old) (held_of u new) o w
performed state t u old new o w done stands = record { after = done.after; packets = done.packets; notes = done.notes; same = done.same; file = done.file; stands = stands }

-- where all records make it, they fit
holding : {m : MapState} {stopped : Bool} {rs : List Record} → MakesMap rs m → HoldsMap m stopped rs
holding made = record { fit = made.fits; made = inl made }

pub stays : {D : Type 0} (state : D → DiskState) (t u : MapState) (old new : Filed D) (o : Outcome MapState) (w : Result Step DiskFault) → PlanPerformed state t u old new o w →
    MakesMap old.records t → MakesMap (old.records ++ listed o.written) o.after → HoldsMap u new.stopped new.records
stays state t u old new o (Ok s) done made stands =
    holding (subst (λ (m : MapState). MakesMap new.records m) (sym done.after)
    (subst (λ (rs : List Record). MakesMap rs o.after) (sym (records_ok state old new o.written s done.file)) stands))
stays state t u old new o (Err Memory) done made stands =
    holding (subst (λ (m : MapState). MakesMap new.records m) (sym done.same) (subst (λ (rs : List Record). MakesMap rs t) (sym (records_short Step state old new o.written done.file)) made))
stays state t u old new o (Err Failed) done made stands =
    made_broken (λ rs. MakesMap rs u) (λ rs. map_fits rs ≡ true) Step state old new o.written done.file (subst (λ (m : MapState). MakesMap old.records m) (sym done.same) made) made.fits stands.fits

-- where the disk failed, it has failed in the step
pub performs_failed : {D : Type 0} (state : D → DiskState) (x y : MapWithFile D) (o : Outcome MapState) (w : Result Step DiskFault) → MapPerforms state x y o w →
    IsErrOf w Failed → (state x.file.disk).failures < (state y.file.disk).failures
performs_failed state x y o w performs bad = records_failed state x.file y.file o.written w performs.file bad
