-- A new replica.
use Rattle.std.proofs.Common.{◌≡◌, ◌≢◌, ℕ, List, [], Some, None, Result, Ok, Err, refl, sym, ap, ◌∙◌, ⊎_elim}
use Rattle.std.proofs.lemmas.Bool.Decides.{eqb_tells}
use Rattle.disk.specs.declared.device.DiskFault.{DiskFault}
use Rattle.disk.specs.Disk.{DiskState}
use Rattle.disk.specs.Filed.{Filed}
use Rattle.disk.specs.Appends.{Appends}
use Rattle.block_types.specs.declared.record.Nodes.{Nodes}
use Rattle.block_types.specs.declared.record.Record.TheVariants as records
use Rattle.wire.specs.declared.packet.Step.{Step}
use Rattle.replica.specs.Content.{new_content}
use Rattle.model_streams.specs.Node.{Replica, fresh, make_taken}
use Rattle.enode.specs.Node.{find}
use Rattle.enode.specs.Performs.{NodePerforms}
use Rattle.disk.proofs.Steps.{appends_with}

pub made_ok : {D : Type 0} (state : D → DiskState) (was is : List (ℕ × Replica)) (old new : Filed D) (e : ℕ) (made : Replica) (places : Nodes) (target fence : ℕ) (s : Step) (w : Result Unit DiskFault) →
    find is e ≡ Some made → made ≡ fresh (new_content places target fence) → ((f : ℕ) → f ≢ e → find is f ≡ find was f) → w ≡ Ok tt → s.packets ≡ [] → s.notes ≡ [] →
    Appends state old new (records.Make e fence target places) w → NodePerforms state was is old new e (make_taken e fence target places) (Ok s)
made_ok state was is old new e made places target fence s w here same elsewhere ok sent shown h = record {
  here = here ∙ ap (λ r. Some r) same;
  elsewhere = elsewhere;
  packets = sent;
  notes = shown;
  same = tt;
  shows = λ p. refl;
  file = appends_with state old new (records.Make e fence target places) (Ok s) (rw (← ok) h);
}

pub made_err : {D : Type 0} (state : D → DiskState) (was mid is : List (ℕ × Replica)) (old new : Filed D) (e : ℕ) (places : Nodes) (target fence : ℕ) (x : DiskFault) (w : Result Unit DiskFault) →
    find was e ≡ None → ((f : ℕ) → f ≢ e → find mid f ≡ find was f) → find is e ≡ None → ((f : ℕ) → f ≢ e → find is f ≡ find mid f) → w ≡ Err x →
    Appends state old new (records.Make e fence target places) w → NodePerforms state was is old new e (make_taken e fence target places) (Err x)
made_err state was mid is old new e places target fence x w before more gone less bad h = record {
  here = tt;
  elsewhere = tt;
  packets = tt;
  notes = tt;
  same = λ f. ⊎_elim (λ q. rw q.1 (gone ∙ sym before)) (λ a. less f a.1 ∙ more f a.1) (eqb_tells f e);
  shows = λ p. refl;
  file = appends_with state old new (records.Make e fence target places) (Err x) (rw (← bad) h);
}
