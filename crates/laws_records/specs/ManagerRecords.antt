-- Records that the manager writes: the one that it is made with, and those of its rules.
use Rattle.std.specs.Prelude.{◌≡◌, ◌≢◌, ◌≤◌, ℕ, Option, Some, None}
use Rattle.block_types.specs.Limits.{IsTarget}
use Rattle.block_types.specs.declared.record.Record.{Record}
use Rattle.block_types.specs.declared.record.Record.TheVariants.{Manage}
use Rattle.wire.specs.declared.actor.ActorId.TheVariants.{Manager}
use Rattle.wire.specs.declared.packet.Packet.{Packet}
use Rattle.model_streams.specs.declared.manager_record.ManagerRecord.TheVariants.{First}
use Rattle.model_streams.specs.RecordBytes.{spelled}
use Rattle.model_streams.specs.Outcome.{Outcome}
use Rattle.model_streams.specs.Manager.{Catalog, manager_rule, decide_rule}

-- a manager is made with this record: of 3 to 12 nodes, and a target that extents may have
pub record IsFirst (r : Record) : Type 0 where
  pub nodes : ℕ
  pub target : ℕ
  pub count : (3 ≤ nodes) × (nodes ≤ 12)
  pub is_target : IsTarget target
  pub is : r ≡ Manage (spelled (First nodes target))

abbrev pub at_packet : Catalog → Packet → Outcome Catalog
at_packet b p = manager_rule b p p.body

abbrev pub at_decision : Catalog → ℕ → Outcome Catalog
at_decision b e = decide_rule b e (b.extent e)

-- the manager of a catalog writes the record at a packet that another sends, or where it decides on an extent right after
-- one, at which it writes nothing
pub data WritesNext (b : Catalog) (r : Record) : Type 0 where
  AtPacket : (sent : Packet) (another : sent.from ≢ Manager) (written : (at_packet b sent).written ≡ Some r) → WritesNext b r
  AtDecision : (told : Packet) (another : told.from ≢ Manager) (nothing : (at_packet b told).written ≡ None)
      (e : ℕ) (written : (at_decision (at_packet b told).after e).written ≡ Some r) → WritesNext b r

-- the manager, restarted from the records that make this catalog, writes the record; of no record none is made, and the first
-- is the one that it is made with
abbrev pub ManagerWrites : Option Catalog → Record → Type 0
ManagerWrites None r = IsFirst r
ManagerWrites (Some b) r = WritesNext b r
