-- Records that a node writes by its rules.
use Rattle.std.specs.Prelude.{◌≡◌, ◌≢◌, ℕ, List, Option, Some, None}
use Rattle.block_types.specs.declared.record.Record.{Record}
use Rattle.wire.specs.declared.actor.ActorId.TheVariants.{Node}
use Rattle.wire.specs.declared.packet.Packet.{Packet}
use Rattle.replica.specs.Content.{Content}
use Rattle.replica.specs.Replay.{replay}
use Rattle.model_streams.specs.Node.{Replica, fresh, extent_of, node_rule}

-- a replica that has just been made from records
abbrev pub fresh_of : Option Content → Option Replica
fresh_of None = None
fresh_of (Some content) = Some (fresh content)

-- node n, restarted from the records before this one, writes it at a packet that another sends
pub record NodeWrites (n : ℕ) (before : List Record) (r : Record) : Type 0 where
  pub sent : Packet
  pub another : sent.from ≢ Node n
  pub written : (node_rule n (fresh_of (replay (extent_of sent.body) before)) sent sent.body).written ≡ Some r
