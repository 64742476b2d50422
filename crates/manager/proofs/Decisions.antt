-- What a decision shows and writes follows from the length at which it seals.
use Rattle.std.proofs.Common.{◌≡◌, ℕ, Option, Some, None, Bool, true, false, refl}
use Rattle.std.specs.Prelude.{if◌then◌else◌, IfOk, Result, Ok, Err}
use Rattle.wire.specs.declared.packet.Step.{Step}
use Rattle.model_streams.specs.declared.extent.Extent.{Extent}
use Rattle.model_streams.specs.Outcome.{sends}
use Rattle.model_streams.specs.Manager.{Catalog, decide_rule, decided_if, is_there, least_told, reminders}
use Rattle.manager.specs.declared.fault.ManagerFault.{ManagerFault}
use Rattle.manager.specs.Performs.{sealing_at, sealing_notes, sealing_record, as_rule}

notes_if : (b : Catalog) (e : ℕ) (x : Extent) (closed : Bool) → (if closed then sends b (reminders b e x) else decided_if b e x (least_told x)).notes ≡ sealing_notes e (if closed then None else least_told x)
notes_if b e x true = refl
notes_if b e x false = told (least_told x)
  where
    told : (o : Option ℕ) → (decided_if b e x o).notes ≡ sealing_notes e o
    told None = refl
    told (Some l) = refl

pub decided_notes : (b : Catalog) (e : ℕ) (x : Option Extent) → (decide_rule b e x).notes ≡ sealing_notes e (sealing_at x)
decided_notes b e None = refl
decided_notes b e (Some x) = notes_if b e x (is_there x.sealed)

written_if : (b : Catalog) (e : ℕ) (x : Extent) (closed : Bool) → (if closed then sends b (reminders b e x) else decided_if b e x (least_told x)).written ≡ sealing_record e (if closed then None else least_told x)
written_if b e x true = refl
written_if b e x false = told (least_told x)
  where
    told : (o : Option ℕ) → (decided_if b e x o).written ≡ sealing_record e o
    told None = refl
    told (Some l) = refl

pub decided_written : (b : Catalog) (e : ℕ) (x : Option Extent) → (decide_rule b e x).written ≡ sealing_record e (sealing_at x)
decided_written b e None = refl
decided_written b e (Some x) = written_if b e x (is_there x.sealed)

-- what holds of a rule's step holds of the answer's
pub rule_step : (P : Step → Type 0) (r : Result Step ManagerFault) → IfOk (as_rule r) P → IfOk r P
rule_step P (Ok s) h = h
rule_step P (Err e) h = tt
