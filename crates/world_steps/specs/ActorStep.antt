-- What one step of an actor comes to.
use Rattle.std.specs.Prelude.{◌≤◌, List, [], length, Option, Some, None}
use Rattle.wire.specs.declared.note.Note.{Note}
use Rattle.wire.specs.declared.packet.Packet.{Packet}
use Rattle.wire.specs.declared.packet.Step.{Step}
use Rattle.wire.specs.declared.refusal.Refusal.{Refusal}
use Rattle.model_partition.specs.declared.table_note.TableNote.{TableNote}

-- the packets, the observations of extents, those of tables, and why the call was refused, if it was
pub record ActorStep : Type 0 where
  pub packets : List Packet
  pub notes : List Note
  pub tables : List TableNote
  pub refusal : Option Refusal

-- nothing is sent, and nothing observed
abbrev pub nothing : ActorStep
nothing = record { packets = []; notes = []; tables = []; refusal = None }

-- the call is refused, and nothing sent or observed
abbrev pub refusal_alone : Refusal → ActorStep
refusal_alone refusal = record { packets = []; notes = []; tables = []; refusal = Some refusal }

-- these are sent, and nothing observed
abbrev pub packets_alone : List Packet → ActorStep
packets_alone packets = record { packets = packets; notes = []; tables = []; refusal = None }

-- the step of a node or of the manager
abbrev pub stream_step : Step → ActorStep
stream_step step = record { packets = step.packets; notes = step.notes; tables = []; refusal = None }

-- the step of a server
abbrev pub table_step : List Packet → List TableNote → ActorStep
table_step packets tables = record { packets = packets; notes = []; tables = tables; refusal = None }

-- no more than a run makes room for before it hands a packet out
abbrev pub IsFew : ActorStep → Type 0
IsFew s = (length s.packets ≤ 2048) × (length s.notes ≤ 2048) × (length s.tables ≤ 2048)
