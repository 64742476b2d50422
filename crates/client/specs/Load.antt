-- The table of a server that opens the streams of a range for a load, and has its generation confirmed once all is read.
use Rattle.std.specs.Prelude.{ℕ, Bool, true, false, Option, Some, None, if◌then◌else◌}
use Rattle.wire.specs.declared.actor.ActorId.TheVariants.{Manager}
use Rattle.wire.specs.declared.actor.ReqNo.{ReqNo}
use Rattle.wire.specs.declared.body.AppendBody.{AppendBody}
use Rattle.wire.specs.declared.body.AppendBody.TheVariants as appends
use Rattle.wire.specs.declared.body.StreamBody.{StreamBody}
use Rattle.wire.specs.declared.body.StreamBody.TheVariants as streams
use Rattle.wire.specs.declared.body.Body.{Body}
use Rattle.wire.specs.declared.body.Body.TheVariants as bodies
use Rattle.wire.specs.declared.packet.Packet.{Packet}
use Rattle.wire.specs.declared.refusal.Refusal.{Refusal}
use Rattle.wire.specs.declared.refusal.Refusal.TheVariants as refusals
use Rattle.client.specs.declared.load.LoadPhase.{LoadPhase}
use Rattle.client.specs.declared.load.LoadPhase.TheVariants.{Opening, Opened, Confirming, Confirmed, Fenced}
use Rattle.client.specs.Requests.{is_same, from_server}

pub record LoadState : Type 0 where
  pub server : ℕ
  pub range : ℕ
  pub generation : ℕ
  pub phase : LoadPhase

-- to open the four streams of the range for the generation
abbrev pub open_packet : ℕ → ℕ → ℕ → ReqNo → Packet
open_packet server range generation q = from_server server Manager (bodies.Stream (streams.OpenStreams range generation q))

abbrev pub opening : ℕ → ℕ → ℕ → ReqNo → LoadState
opening server range generation q = record { server = server; range = range; generation = generation; phase = Opening q }

abbrev pub confirm_packet : LoadState → ReqNo → Packet
confirm_packet l q = from_server l.server Manager (bodies.Stream (streams.Confirm l.range l.generation q))

abbrev pub is_open : LoadPhase → Bool
is_open Opened = true
is_open phase = false

-- whether an answer of this number is waited for
abbrev pub load_awaits : LoadPhase → ReqNo → Bool
load_awaits (Opening q) w = is_same q w
load_awaits (Confirming q) w = is_same q w
load_awaits phase w = false

-- ---- answers

abbrev pub opened_phase : ReqNo → LoadPhase → LoadPhase
opened_phase w (Opening q) = if is_same q w then Opened else Opening q
opened_phase w phase = phase

abbrev pub confirmed_phase : ReqNo → LoadPhase → LoadPhase
confirmed_phase w (Confirming q) = if is_same q w then Confirmed else Confirming q
confirmed_phase w phase = phase

-- an old generation is never confirmed, and another refusal leaves it waiting
abbrev pub stale_phase : ReqNo → LoadPhase → LoadPhase
stale_phase w (Opening q) = if is_same q w then Fenced else Opening q
stale_phase w (Confirming q) = if is_same q w then Fenced else Confirming q
stale_phase w phase = phase

abbrev pub refused_phase : ReqNo → Refusal → LoadPhase → LoadPhase
refused_phase w refusals.Stale phase = stale_phase w phase
refused_phase w refusal phase = phase

abbrev pub append_phase : AppendBody → LoadPhase → LoadPhase
append_phase (appends.Refused w refusal) phase = refused_phase w refusal phase
append_phase body phase = phase

abbrev pub stream_phase : StreamBody → LoadPhase → LoadPhase
stream_phase (streams.Opened w lists) phase = opened_phase w phase
stream_phase (streams.Confirmed w) phase = confirmed_phase w phase
stream_phase body phase = phase

abbrev pub reply_phase : Body → LoadPhase → LoadPhase
reply_phase (bodies.Append body) phase = append_phase body phase
reply_phase (bodies.Stream body) phase = stream_phase body phase
reply_phase body phase = phase

-- what is asked again, with its number
abbrev pub again : LoadState → LoadPhase → Option Packet
again l (Opening q) = Some (open_packet l.server l.range l.generation q)
again l (Confirming q) = Some (confirm_packet l q)
again l phase = None
