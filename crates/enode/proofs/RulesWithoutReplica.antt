-- A rule about an extent without a replica leaves the node as it is.
use Rattle.std.proofs.Common.{◌≡◌, ℕ, refl, sym, ◌∙◌, List, Option, None, Result, Ok, Err, subst}
use Rattle.block_types.specs.declared.record.Record.{Record}
use Rattle.disk.specs.declared.device.DiskFault.{DiskFault}
use Rattle.disk.specs.Disk.{DiskState}
use Rattle.disk.specs.Filed.{Filed}
use Rattle.disk.specs.Appends.{Records}
use Rattle.wire.specs.declared.packet.Step.{Step}
use Rattle.model_streams.specs.Outcome.{Outcome}
use Rattle.model_streams.specs.Node.{Replica}
use Rattle.enode.specs.Node.{find}
use Rattle.enode.specs.Performs.{NodePerforms, AnswersWithoutReplica, listed}

pub took_absent : {D : Type 0} (state : D → DiskState) (was : List (ℕ × Replica)) (file : Filed D) (e : ℕ) (o : Outcome (Option Replica)) (result : Result Step DiskFault) →
    find was e ≡ None → AnswersWithoutReplica o result → NodePerforms state was was file file e o result
took_absent {D} state was file e o (Ok s) none h = record {
  here = none ∙ sym h.after;
  elsewhere = λ f apart. refl;
  packets = h.packets;
  notes = h.notes;
  same = tt;
  shows = λ p. absurd cc;
  file = subst (λ (w : Option Record). Records {D = D} {T = Step} state file file (listed w) (Ok s)) (sym h.unwritten) (refl, (λ p. absurd cc));
}
took_absent {D} state was file e o (Err x) none h = record {
  here = tt;
  elsewhere = tt;
  packets = tt;
  notes = tt;
  same = λ f. refl;
  shows = λ p. let f = h.fault in absurd cc;
  file = let f = h.fault in subst (λ (w : Option Record). Records {D = D} {T = Step} state file file (listed w) (Err x)) (sym h.unwritten) (refl, (λ p. absurd cc));
}
