-- A rule that writes no record leaves the file as it is.
use Rattle.std.proofs.Common.{refl, sym, Option, Result, Ok, Err, subst}
use Rattle.block_types.specs.declared.record.Record.{Record}
use Rattle.disk.specs.declared.device.DiskFault.{DiskFault}
use Rattle.disk.specs.Disk.{DiskState}
use Rattle.disk.specs.Filed.{Filed}
use Rattle.disk.specs.Appends.{Records}
use Rattle.wire.specs.declared.packet.Step.{Step}
use Rattle.model_streams.specs.Outcome.{Outcome}
use Rattle.model_streams.specs.Node.{Replica}
use Rattle.enode_rules.specs.Performs.{ReplicaPerforms, ReplicaPerformsInMemory, listed}

pub performed_told : {D : Type 0} (state : D → DiskState) (was is : Replica) (file : Filed D) (o : Outcome (Option Replica)) (result : Result Step DiskFault) →
    ReplicaPerformsInMemory was is o result → ReplicaPerforms state was is file file o result
performed_told {D} state was is file o (Ok s) h = record {
  after = h.after;
  packets = h.packets;
  notes = h.notes;
  same = h.same;
  shows = λ p. absurd cc;
  file = subst (λ (w : Option Record). Records {D = D} {T = Step} state file file (listed w) (Ok s)) (sym h.unwritten) (refl, (λ p. absurd cc));
}
performed_told {D} state was is file o (Err x) h = record {
  after = h.after;
  packets = h.packets;
  notes = h.notes;
  same = h.same;
  shows = λ p. let f = h.fault in absurd cc;
  file = let f = h.fault in subst (λ (w : Option Record). Records {D = D} {T = Step} state file file (listed w) (Err x)) (sym h.unwritten) (refl, (λ p. absurd cc));
}
