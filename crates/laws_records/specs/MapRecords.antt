-- Records that the map writes by its rules.
use Rattle.std.specs.Prelude.{◌≡◌, ◌≢◌, ℕ, Some, None}
use Rattle.block_types.specs.declared.record.Record.{Record}
use Rattle.wire.specs.declared.actor.ActorId.TheVariants.{Map}
use Rattle.wire.specs.declared.packet.Packet.{Packet}
use Rattle.model_partition.specs.Map.{MapState, range_at}
use Rattle.model_partition.specs.MapRules.{assign_fault, assign_rule, renew_fault, renew_rule, map_rule}

-- the map, restarted from the records that make this one, writes the record at a packet that another sends, or at an assignment, at
-- some moment, or a renewal that is not refused
pub data MapWrites (m : MapState) (r : Record) : Type 0 where
  AtPacket : (sent : Packet) (another : sent.from ≢ Map) (written : (map_rule m sent sent.body).written ≡ Some r) → MapWrites m r
  AtAssignment : (range server now until : ℕ) (allowed : assign_fault server now (range_at m.ranges range) ≡ None)
      (written : (assign_rule m range server until (range_at m.ranges range)).written ≡ Some r) → MapWrites m r
  AtRenewal : (range server until : ℕ) (allowed : renew_fault server (range_at m.ranges range) ≡ None)
      (written : (renew_rule m range server until (range_at m.ranges range)).written ≡ Some r) → MapWrites m r
