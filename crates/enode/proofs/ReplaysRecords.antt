-- A node's replicas stay what the records of its file make of them.
use Rattle.std.proofs.Common.{◌≡◌, ◌≢◌, ℕ, true, List, ◌++◌, Option, Some, None, Result, Ok, Err, IfOk, ap, sym, subst, ◌∙◌, inl, ⊎_elim, append-nil}
use Rattle.std.proofs.lemmas.Bool.Decides.{eqb_tells}
use Rattle.disk.proofs.Steps.{records_ok, records_short}
use Rattle.disk.specs.declared.device.DiskFault.{DiskFault}
use Rattle.disk.specs.declared.device.DiskFault.TheVariants.{Failed, Memory}
use Rattle.disk.specs.Disk.{DiskState}
use Rattle.disk.specs.Filed.{Filed}
use Rattle.block_types.specs.declared.record.Record.{Record}
use Rattle.wire.specs.declared.packet.Step.{Step}
use Rattle.replica.specs.Content.{Content}
use Rattle.replica.specs.Replay.{applied, fits, fit, replay}
use Rattle.replica.proofs.Replaying.{replay-here, replay-elsewhere, fit-push}
use Rattle.model_streams.specs.Outcome.{Outcome}
use Rattle.model_streams.specs.Node.{Replica, contents}
use Rattle.model_streams.specs.Bounds.{FewWait, AreFew}
use Rattle.disk.proofs.Made.{made_broken}
use Rattle.model_streams.proofs.Bounds.{Bounded}
use Rattle.model_streams.proofs.Replay.{Replays, IsWritten, applied_if}
use Rattle.enode.specs.Node.{find, IsReplay, HoldsReplicas}
use Rattle.enode.specs.Performs.{NodePerforms, listed}

-- replay over the old records and what was written of extent e
module _ (n e : ℕ) (rs : List Record) (was : Option Replica) (before : contents was ≡ replay e rs) where
  replay_written : (written : Option Record) → IsWritten n e (contents was) written → replay e (rs ++ listed written) ≡ applied_if (contents was) written
  replay_written None about = ap (replay e) (append-nil rs) ∙ sym before
  replay_written (Some r) about = replay-here e rs r about.0 ∙ ap (λ (c : Option Content). applied c r) (sym before)

  replay_others : (f : ℕ) → f ≢ e → (written : Option Record) → IsWritten n e (contents was) written → replay f (rs ++ listed written) ≡ replay f rs
  replay_others f apart None about = ap (replay f) (append-nil rs)
  replay_others f apart (Some r) about = replay-elsewhere f e rs r about.0 apart

  fit_written : fit n rs ≡ true → (written : Option Record) → IsWritten n e (contents was) written → fit n (rs ++ listed written) ≡ true
  fit_written fits_before None about = ap (fit n) (append-nil rs) ∙ fits_before
  fit_written fits_before (Some r) about = fit-push n e rs r fits_before about.0 (ap (λ (c : Option Content). fits n c r) (sym before) ∙ about.1)

-- ---- a rule

same_replicas : (n : ℕ) (was is : List (ℕ × Replica)) → ((f : ℕ) → find is f ≡ find was f) → (rs : List Record) → IsReplay n was rs → IsReplay n is rs
same_replicas n was is same rs before = record {
  each = λ f. ap contents (same f) ∙ before.each f;
  fits = before.fits;
  few = λ f. subst FewWait (sym (same f)) (before.few f);
}

pub stays : {D : Type 0} (state : D → DiskState) (n : ℕ) (was is : List (ℕ × Replica)) (old new : Filed D) (e : ℕ) (o : Outcome (Option Replica)) (w : Result Step DiskFault) →
    IsReplay n was old.records → Replays n e (find was e) o → Bounded o → NodePerforms state was is old new e o w → HoldsReplicas n is new.stopped new.records
stays state n was is old new e o (Ok s) before rule bounded h =
    let records = records_ok state old new o.written s h.file in
    let fitting = ap (λ (x : List Record). fit n x) records ∙ fit_written n e old.records (find was e) (before.each e) before.fits o.written rule.written in
    record {
      fit = fitting;
      made = inl (record {
        each = λ f. ⊎_elim
            (λ same. rw same.1 (ap contents h.here ∙ rule.is ∙ sym (replay_written n e old.records (find was e) (before.each e) o.written rule.written) ∙ ap (λ (x : List Record). replay e x) (sym records)))
            (λ apart. ap contents (h.elsewhere f apart.1) ∙ before.each f ∙ sym (replay_others n e old.records (find was e) (before.each e) f apart.1 o.written rule.written) ∙ ap (λ (x : List Record). replay f x) (sym records))
            (eqb_tells f e);
        fits = fitting;
        few = λ f. ⊎_elim
            (λ same. subst (λ k. FewWait (find is k)) (sym same.1) (subst FewWait (sym h.here) bounded.waits))
            (λ apart. subst FewWait (sym (h.elsewhere f apart.1)) (before.few f))
            (eqb_tells f e);
      });
    }
stays state n was is old new e o (Err Memory) before rule bounded h =
    let all = subst (IsReplay n is) (sym (records_short Step state old new o.written h.file)) (same_replicas n was is h.same old.records before) in
    record { fit = all.fits; made = inl all }
stays state n was is old new e o (Err Failed) before rule bounded h =
    made_broken (IsReplay n is) (λ r. fit n r ≡ true) Step state old new o.written h.file (same_replicas n was is h.same old.records before) before.fits
    (fit_written n e old.records (find was e) (before.each e) before.fits o.written rule.written)

pub took_few : {D : Type 0} (state : D → DiskState) (was is : List (ℕ × Replica)) (old new : Filed D) (e : ℕ) (o : Outcome (Option Replica)) (w : Result Step DiskFault) →
    Bounded o → NodePerforms state was is old new e o w → IfOk w (λ step. AreFew step.packets step.notes)
took_few state was is old new e o (Ok s) bounded h = subst (λ x. AreFew x s.notes) (sym h.packets) (subst (λ x. AreFew o.packets x) (sym h.notes) bounded.few)
took_few state was is old new e o (Err x) bounded h = tt
