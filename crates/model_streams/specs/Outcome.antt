-- What an actor does with one packet, and refusals by the first test that is met.
use Rattle.std.specs.Prelude.{Bool, true, ◌&&◌, List, [], ◌∷◌, Option, Some, None, if◌then◌else◌}
use Rattle.block_types.specs.declared.record.Record.{Record}
use Rattle.wire.specs.declared.actor.ActorId.{ActorId}
use Rattle.wire.specs.declared.actor.ReqNo.{ReqNo}
use Rattle.wire.specs.declared.body.AppendBody.TheVariants.{Refused}
use Rattle.wire.specs.declared.body.Body.{Body}
use Rattle.wire.specs.declared.body.Body.TheVariants as bodies
use Rattle.wire.specs.declared.note.Note.{Note}
use Rattle.wire.specs.declared.packet.Packet.{Packet}
use Rattle.wire.specs.declared.refusal.Refusal.{Refusal}

-- the state after it, the record that is confirmed before anything is sent, the packets and the observations
pub record Outcome (S : Type 0) : Type 0 where
  pub after : S
  pub written : Option Record
  pub packets : List Packet
  pub notes : List Note

abbrev pub packet : ActorId → ActorId → Body → Packet
packet from to body = record { from = from; to = to; body = body }

-- the refusal of the first test that is met
abbrev pub first_met : List (Refusal × Bool) → Option Refusal
first_met [] = None
first_met ((refusal, test) ∷ tests) = if test then Some refusal else first_met tests

abbrev pub all_met : List Bool → Bool
all_met [] = true
all_met (test ∷ tests) = test && all_met tests

-- nothing changes and nothing is sent
abbrev pub silent : {S : Type 0} → S → Outcome S
silent s = record { after = s; written = None; packets = []; notes = [] }

-- nothing changes
abbrev pub sends : {S : Type 0} → S → List Packet → Outcome S
sends s packets = record { after = s; written = None; packets = packets; notes = [] }

-- the refusal of a request goes to its sender, and nothing changes
abbrev pub refused : {S : Type 0} → S → ActorId → Packet → ReqNo → Refusal → Outcome S
refused s me p q refusal = sends s (packet me p.from (bodies.Append (Refused q refusal)) ∷ [])

abbrev pub or_refused : {S : Type 0} → S → ActorId → Packet → ReqNo → Option Refusal → Outcome S → Outcome S
or_refused s me p q (Some refusal) taken = refused s me p q refusal
or_refused s me p q None taken = taken
