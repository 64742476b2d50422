-- Rows that raise a fence, whose record is written where the fence is lower.
use Rattle.std.proofs.Common.{◌≡◌, List, [], Option, Some, None, Ok, Err, refl, ap}
use Rattle.disk.specs.declared.device.DiskFault.{DiskFault}
use Rattle.disk.specs.Disk.{DiskState}
use Rattle.disk.specs.Filed.{Filed}
use Rattle.disk.specs.Appends.{Records}
use Rattle.block_types.specs.declared.record.Record.{Record}
use Rattle.wire.specs.declared.packet.Packet.{Packet}
use Rattle.wire.specs.declared.packet.Step.{Step}
use Rattle.model_streams.specs.Node.{Replica}
use Rattle.enode_rules.specs.Performs.{ReplicaPerforms, listed}
use Rattle.disk.proofs.Steps.{appends_with, bare}

records_ok : {D : Type 0} (state : D → DiskState) (old new : Filed D) (written : Option Record) (s : Step) →
    Records {T = Unit} state old new (listed written) (Ok tt) → Records {T = Step} state old new (listed written) (Ok s)
records_ok state old new None s h = (h.0, (λ p. absurd cc))
records_ok state old new (Some r) s h = appends_with state old new r (Ok s) h

records_err : {D : Type 0} (state : D → DiskState) (old new : Filed D) (written : Option Record) (x : DiskFault) →
    Records {T = Unit} state old new (listed written) (Err x) → Records {T = Step} state old new (listed written) (Err x)
records_err state old new None x h = (h.0, (λ p. h.1 (ap bare p)))
records_err state old new (Some r) x h = appends_with state old new r (Err x) h

pub raised_ok : {D : Type 0} (state : D → DiskState) (was is : Replica) (old new : Filed D) (after : Option Replica) (written : Option Record) (packets : List Packet) (s : Step) →
    Records {T = Unit} state old new (listed written) (Ok tt) → Some is ≡ after → s.packets ≡ packets → s.notes ≡ [] →
    ReplicaPerforms state was is old new (record { after = after; written = written; packets = packets; notes = [] }) (Ok s)
raised_ok state was is old new after written packets s h same sent shown = record {
  after = same;
  packets = sent;
  notes = shown;
  same = tt;
  shows = λ p. refl;
  file = records_ok state old new written s h;
}

pub raised_err : {D : Type 0} (state : D → DiskState) (was is : Replica) (old new : Filed D) (after : Option Replica) (written : Option Record) (packets : List Packet) (x : DiskFault) →
    Records {T = Unit} state old new (listed written) (Err x) → is ≡ was →
    ReplicaPerforms state was is old new (record { after = after; written = written; packets = packets; notes = [] }) (Err x)
raised_err state was is old new after written packets x h same = record {
  after = tt;
  packets = tt;
  notes = tt;
  same = same;
  shows = λ p. refl;
  file = records_err state old new written x h;
}
