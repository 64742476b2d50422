-- What a file's records are after a step that may append one, whatever the step gives.
use Rattle.std.proofs.Common.{◌≡◌, ◌<◌, false, ◌++◌, Option, Some, None, Result, Ok, Err, ap, append-nil, refl, sym, ◌∙◌}
use Rattle.std.specs.Prelude.{IsErrOf}
use Rattle.block_types.specs.declared.record.Record.{Record}
use Rattle.disk.specs.Appends.{Appends, Records, listed}
use Rattle.disk.specs.Disk.{DiskState}
use Rattle.disk.specs.Filed.{Filed}
use Rattle.disk.specs.declared.device.DiskFault.{DiskFault}
use Rattle.disk.specs.declared.device.DiskFault.TheVariants.{Failed, Memory}

-- how a step ended, without what it gives
abbrev pub bare : {T : Type 0} → Result T DiskFault → Result Unit DiskFault
bare (Ok s) = Ok tt
bare (Err x) = Err x

abbrev back : {T : Type 0} → DiskFault → Result Unit DiskFault → Result T DiskFault
back x (Ok u) = Err x
back x (Err y) = Err y

-- what an append says of a step that ends as the append does
pub appends_with : {D T : Type 0} (state : D → DiskState) (old new : Filed D) (r : Record) (w : Result T DiskFault) → Appends state old new r (bare w) → Appends state old new r w
appends_with state old new r (Ok s) h = record {
  ok = h.ok;
  durable = h.durable;
  any_moment = λ no. h.any_moment (λ p. no (absurd cc));
  stands = λ no. h.stands (λ p. no (absurd cc));
  memory = λ p. absurd cc;
  failed = λ p. absurd cc;
  either = λ p. absurd cc;
  version = h.version;
  stop = λ n keep told one four. ((h.stop n keep told one four).0, (λ p. absurd cc));
  later = λ n keep told four. ((λ p. absurd cc), (h.later n keep told four).1);
  steady = λ told. ((λ p. absurd cc), (h.steady told).1);
  sure = h.sure;
}
appends_with state old new r (Err x) h = record {
  ok = h.ok;
  durable = h.durable;
  any_moment = λ no. h.any_moment (λ p. no (ap (back x) p));
  stands = λ no. h.stands (λ p. no (ap (back x) p));
  memory = λ p. h.memory (ap bare p);
  failed = λ p. h.failed (ap bare p);
  either = λ p. h.either (ap bare p);
  version = h.version;
  stop = λ n keep told one four. ((h.stop n keep told one four).0, (λ p. (h.stop n keep told one four).1 (ap bare p)));
  later = λ n keep told four. ((λ p. (h.later n keep told four).0 (ap bare p)), (h.later n keep told four).1);
  steady = λ told. ((λ p. (h.steady told).0 (ap bare p)), (h.steady told).1);
  sure = h.sure;
}

-- the records after a step that was done
pub records_ok : {D T : Type 0} (state : D → DiskState) (old new : Filed D) (written : Option Record) (s : T) →
    Records state old new (listed written) (Ok s) → new.records ≡ old.records ++ listed written
records_ok state old new None s h = ap (λ (f : Filed _). f.records) h.0 ∙ sym (append-nil old.records)
records_ok state old new (Some r) s h = h.ok.2

-- without memory they are the old ones
pub records_short : {D : Type 0} (T : Type 0) (state : D → DiskState) (old new : Filed D) (written : Option Record) →
    Records {T = T} state old new (listed written) (Err Memory) → new.records ≡ old.records
records_short T state old new None h = ap (λ (f : Filed _). f.records) h.0
records_short T state old new (Some r) h = (h.memory refl).records

-- where the disk failed, it has failed in the step
pub records_failed : {D T : Type 0} (state : D → DiskState) (old new : Filed D) (written : Option Record) (w : Result T DiskFault) →
    Records state old new (listed written) w → IsErrOf w Failed → (state old.disk).failures < (state new.disk).failures
records_failed state old new None w h bad = absurd (h.1 bad)
records_failed state old new (Some r) w h bad = (h.failed bad).1

-- and the file is stopped
pub records_broken : {D : Type 0} (T : Type 0) (state : D → DiskState) (old new : Filed D) (written : Option Record) →
    Records {T = T} state old new (listed written) (Err Failed) → new.stopped ≡ false → ⊥
records_broken T state old new None h up = h.1 refl
records_broken T state old new (Some r) h up = absurd (let down = (h.failed refl).0 in cc)
