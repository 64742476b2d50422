-- A rule with a record, from what the append to the file says.
use Rattle.std.proofs.Common.{◌≡◌, refl, sym, subst, arith, inl, List, [], Option, Some, None, Ok, Err}
use Rattle.disk.proofs.Steps.{appends_with}
use Rattle.disk.specs.declared.device.DiskFault.{DiskFault}
use Rattle.disk.specs.declared.device.DiskFault.TheVariants.{Memory}
use Rattle.disk.specs.Disk.{DiskState, IsUntouched}
use Rattle.disk.specs.Filed.{Filed}
use Rattle.disk.specs.Appends.{Appends, Records, listed}
use Rattle.block_types.specs.declared.record.Record.{Record}
use Rattle.wire.specs.declared.packet.Packet.{Packet}
use Rattle.wire.specs.declared.packet.Step.{Step}
use Rattle.model_streams.specs.Outcome.{Outcome}
use Rattle.model_streams.specs.Node.{Replica}
use Rattle.enode_rules.specs.Performs.{ReplicaPerforms}

pub performed_ok : {D : Type 0} (state : D → DiskState) (was is : Replica) (old new : Filed D) (after : Option Replica) (r : Record) (packets : List Packet) (s : Step) →
    Appends {T = Unit} state old new r (Ok tt) → Some is ≡ after → s.packets ≡ packets → s.notes ≡ [] →
    ReplicaPerforms state was is old new (record { after = after; written = Some r; packets = packets; notes = [] }) (Ok s)
performed_ok state was is old new after r packets s h same sent shown = record {
  after = same;
  packets = sent;
  notes = shown;
  same = tt;
  shows = λ p. refl;
  file = appends_with state old new r (Ok s) h;
}

pub performed_err : {D : Type 0} (state : D → DiskState) (was is : Replica) (old new : Filed D) (after : Option Replica) (r : Record) (packets : List Packet) (x : DiskFault) →
    Appends {T = Unit} state old new r (Err x) → is ≡ was →
    ReplicaPerforms state was is old new (record { after = after; written = Some r; packets = packets; notes = [] }) (Err x)
performed_err state was is old new after r packets x h same = record {
  after = tt;
  packets = tt;
  notes = tt;
  same = same;
  shows = λ p. refl;
  file = appends_with state old new r (Err x) h;
}

untouched : (s : DiskState) → IsUntouched s s
untouched s = record {
  seen = refl;
  may_leave = λ c h. h;
  moment = refl;
  failures = refl;
  time = record { later = omega arith; nothing_else = λ t c early h. inl h; keeps = λ t c early h. h };
  stop = refl;
  synced = refl;
  sure = refl;
}

unwritten : {D : Type 0} (state : D → DiskState) (file : Filed D) (written : Option Record) → Records {D = D} {T = Step} state file file (listed written) (Err Memory)
unwritten state file None = (refl, (λ p. absurd cc))
unwritten state file (Some r) = record {
  ok = tt;
  durable = tt;
  any_moment = λ no. absurd (no refl);
  stands = λ no. absurd (no refl);
  memory = λ p. record { disk = untouched (state file.disk); stopped = refl; version = refl; records = refl };
  failed = λ p. absurd cc;
  either = λ p. absurd cc;
  version = refl;
  stop = λ n keep told one four. ((λ p. absurd cc), (λ p. absurd cc));
  later = λ n keep told four. ((λ p. absurd cc), tt);
  steady = λ told. ((λ p. absurd cc), told);
  sure = refl;
}

-- where there was no memory for what a rule sends, nothing has changed
pub performed_short : {D : Type 0} (state : D → DiskState) (was : Replica) (file : Filed D) (o : Outcome (Option Replica)) (x : DiskFault) → x ≡ Memory → ReplicaPerforms state was was file file o (Err x)
performed_short state was file o x is = subst (λ (y : DiskFault). ReplicaPerforms state was was file file o (Err y)) (sym is) (record {
  after = tt;
  packets = tt;
  notes = tt;
  same = refl;
  shows = λ p. absurd cc;
  file = unwritten state file o.written;
})
