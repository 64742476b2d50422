-- A rule of one replica is a rule of its node.
use Rattle.std.proofs.Common.{◌≡◌, ◌≢◌, ℕ, sym, ap, ◌∙◌, List, Option, Some, None, Result, Ok, Err, subst, ⊎_elim}
use Rattle.std.proofs.lemmas.Bool.Decides.{eqb_tells}
use Rattle.disk.specs.declared.device.DiskFault.{DiskFault}
use Rattle.disk.specs.Disk.{DiskState}
use Rattle.disk.specs.Filed.{Filed}
use Rattle.wire.specs.declared.body.Body.{Body}
use Rattle.wire.specs.declared.packet.Packet.{Packet}
use Rattle.wire.specs.declared.packet.Step.{Step}
use Rattle.model_streams.specs.Outcome.{Outcome}
use Rattle.model_streams.specs.Node.{Replica, node_rule}
use Rattle.enode_rules.specs.Performs.{ReplicaPerforms}
use Rattle.enode.specs.Node.{find}
use Rattle.enode.specs.Performs.{NodePerforms}

took_performed : {D : Type 0} (state : D → DiskState) (was is : List (ℕ × Replica)) (old new : Filed D) (e : ℕ) (o : Outcome (Option Replica)) (before after : Replica) (result : Result Step DiskFault) →
    find was e ≡ Some before → find is e ≡ Some after → ((f : ℕ) → f ≢ e → find is f ≡ find was f) → ReplicaPerforms state before after old new o result → NodePerforms state was is old new e o result
took_performed state was is old new e o before after (Ok s) had has others h = record {
  here = has ∙ h.after;
  elsewhere = others;
  packets = h.packets;
  notes = h.notes;
  same = tt;
  shows = h.shows;
  file = h.file;
}
took_performed state was is old new e o before after (Err x) had has others h = record {
  here = tt;
  elsewhere = tt;
  packets = tt;
  notes = tt;
  same = λ f. ⊎_elim (λ q. rw q.1 (has ∙ ap (λ (r : Replica). Some r) h.same ∙ sym had)) (λ a. others f a.1) (eqb_tells f e);
  shows = h.shows;
  file = h.file;
}

-- where there is a replica
pub took_some : {D : Type 0} (state : D → DiskState) (was is : List (ℕ × Replica)) (old new : Filed D) (e n : ℕ) (p : Packet) (body : Body) (before after : Replica) (result : Result Step DiskFault) →
    find was e ≡ Some before → find is e ≡ Some after → ((f : ℕ) → f ≢ e → find is f ≡ find was f) →
    ReplicaPerforms state before after old new (node_rule n (Some before) p body) result → NodePerforms state was is old new e (node_rule n (find was e) p body) result
took_some state was is old new e n p body before after result had has others h =
    subst (λ (s : Option Replica). NodePerforms state was is old new e (node_rule n s p body) result) (sym had) (took_performed state was is old new e _ before after result had has others h)

-- where there is none
pub took_none : {D : Type 0} (state : D → DiskState) (was mid is : List (ℕ × Replica)) (old new : Filed D) (e n : ℕ) (p : Packet) (body : Body) (result : Result Step DiskFault) →
    mid ≡ was → find was e ≡ None → NodePerforms state mid is old new e (node_rule n None p body) result → NodePerforms state was is old new e (node_rule n (find was e) p body) result
took_none state was mid is old new e n p body result same none h =
    subst (λ (s : Option Replica). NodePerforms state was is old new e (node_rule n s p body) result) (sym none)
    (subst (λ (m : List (ℕ × Replica)). NodePerforms state m is old new e (node_rule n None p body) result) same h)
