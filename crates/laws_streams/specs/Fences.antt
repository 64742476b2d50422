-- What fences are for: once a generation has opened a range and has checked an extent, nothing that a lower one ever has
-- acknowledged stands after the checked length, and no lower one adds to it.
use Rattle.std.specs.Prelude.{◌≡◌, ℕ, suc, ◌+◌, ◌<◌, ◌≤◌, Bool, true, not, ◌||◌, List, [], ◌∷◌, ◌++◌, length, take, Option, Some, None, slice_get, Contains}
use Rattle.block_types.specs.declared.record.Record.{Record}
use Rattle.wire.specs.declared.actor.ActorId.TheVariants.{Node, Manager}
use Rattle.wire.specs.declared.actor.ReqNo.{ReqNo}
use Rattle.wire.specs.declared.body.CheckBody.TheVariants.{Check, Checked}
use Rattle.wire.specs.declared.body.StreamBody.TheVariants.{OpenStreams, Confirm}
use Rattle.wire.specs.declared.body.Body.TheVariants as bodies
use Rattle.wire.specs.declared.note.Note.TheVariants.{Acked, SealedAt}
use Rattle.wire.specs.declared.packet.Packet.{Packet}
use Rattle.wire.specs.declared.streams.StreamName.{StreamName}
use Rattle.replica.specs.Groups.{Group, size, text_length}
use Rattle.replica.specs.Replay.{is_place}
use Rattle.streams.specs.Streams.{Stream, stream_of, longer}
use Rattle.model_streams.specs.declared.event.Event.TheVariants.{Deliver}
use Rattle.model_streams.specs.declared.extent.Extent.{Extent}
use Rattle.model_streams.specs.declared.manager_record.ManagerRecord.TheVariants as manager_records
use Rattle.model_streams.specs.Actors.{generation_of}
use Rattle.model_streams.specs.Manager.{writes, open_refusal, confirm_refusal}
use Rattle.model_streams.specs.Node.{Replica}
use Rattle.model_streams.specs.Outcome.{packet}
use Rattle.model_streams.specs.StreamSystem.{ActorCell, StreamSystem, stops_in, stands_in, Move, run_moves}
use Rattle.model_streams.specs.StreamSystem.Move.{Happens}
use Rattle.laws_streams.specs.Origins.{Origin, Begins, OriginsOfMoves}

-- ---- fences of streams

-- the stream is there, with a fence that is no lower
pub record Risen (x : Stream) (found : Option Stream) : Type 0 where
  pub now : Stream
  pub is : found ≡ Some now
  pub fence : x.fence ≤ now.fence

-- each stream of the first stream system is there in the second, with a fence that is no lower
abbrev pub FencesRise : StreamSystem → StreamSystem → Type 0
FencesRise w v = (s : StreamName) (x : Stream) → stream_of w.catalog.stream s ≡ Some x → Risen x (stream_of v.catalog.stream s)

-- the extent was added at the end of a stream, with the fence that the stream had
pub record MadeUnder (w v : StreamSystem) (e : ℕ) (x : Extent) : Type 0 where
  pub name : StreamName
  pub stream : Stream
  pub there : stream_of w.catalog.stream name ≡ Some stream
  pub fence : x.fence ≡ stream.fence
  pub last : stream_of v.catalog.stream name ≡ Some (longer e stream)

-- so was each extent that is in the second stream system and not in the first
abbrev pub MadeWithFences : StreamSystem → StreamSystem → Type 0
MadeWithFences w v = (e : ℕ) (x : Extent) → w.catalog.extent e ≡ None → v.catalog.extent e ≡ Some x → MadeUnder w v e x

-- ---- openings and confirmations

-- the move delivers this packet to the manager, which runs
pub record Reaches (w : StreamSystem) (move : Move) (p : Packet) : Type 0 where
  pub number : ℕ
  pub delivered : move ≡ Happens (Deliver number)
  pub sent : slice_get w.post number ≡ Some p
  pub to : p.to ≡ Manager
  pub up : w.manager_cell.up ≡ true

-- the record stands, also where its writer stops
abbrev pub is_kept : ActorCell → Option Record → Bool
is_kept c written = not (stops_in c written) || stands_in c

-- with this move the manager opens the streams of the range for the generation, and its record of that stands
pub record Opens (w : StreamSystem) (move : Move) (range generation : ℕ) : Type 0 where
  pub packet : Packet
  pub request : ReqNo
  pub reaches : Reaches w move packet
  pub body : packet.body ≡ bodies.Stream (OpenStreams range generation request)
  pub taken : open_refusal w.catalog packet range generation ≡ None
  pub stands : is_kept w.manager_cell (writes (manager_records.OpenStreams range generation)) ≡ true

-- with this move the manager answers that the generation is confirmed
pub record Confirms (w : StreamSystem) (move : Move) (range generation : ℕ) : Type 0 where
  pub packet : Packet
  pub request : ReqNo
  pub reaches : Reaches w move packet
  pub body : packet.body ≡ bodies.Stream (Confirm range generation request)
  pub taken : confirm_refusal w.catalog packet range generation ≡ None

-- one of these moves, from w on, opens the range for the generation
pub record OpensIn (moves : List Move) (w : StreamSystem) (range generation : ℕ) : Type 0 where
  pub past : List Move
  pub opening : Move
  pub rest : List Move
  pub split : moves ≡ past ++ opening ∷ rest
  pub opens : Opens (run_moves past w) opening range generation

-- between these moves the generation is confirmed: what opened the range before is no higher, and what opens it after is
-- higher
pub record Settles (before after : List Move) (confirming : Move) (w : StreamSystem) (range generation : ℕ) : Type 0 where
  pub earlier : (other : ℕ) → OpensIn before w range other → other ≤ generation
  pub later : (other : ℕ) → OpensIn after (run_moves (before ++ confirming ∷ []) w) range other → generation < other

-- ---- checks

-- the length is that of a beginning of the script, and each group of a lower generation ends within it
pub record Covers (script : List Group) (origin : List Origin) (generation end : ℕ) : Type 0 where
  pub front : List Group
  pub begins : Begins front script
  pub ends : text_length front ≡ end
  pub older : (i : ℕ) (o : Origin) → slice_get origin i ≡ Some o → o.generation < generation → text_length (take (suc i) script) ≤ end

-- the group stands at the offset in the script, and ends within the length if it is of a lower generation
pub record EndsWithin (script : List Group) (origin : List Origin) (generation end offset : ℕ) (group : Group) : Type 0 where
  pub index : ℕ
  pub from : Origin
  pub is : slice_get script index ≡ Some group
  pub start : text_length (take index script) ≡ offset
  pub appended : slice_get origin index ≡ Some from
  pub within : from.generation < generation → offset + size group ≤ end

-- What the answer to a check says for good: it answers a check that was asked; its length covers each group that is ever
-- acknowledged under a lower generation; no place has less, and it is never sealed at less; and no lower generation adds a
-- group later.
pub record Answers (before after : List Move) (w : StreamSystem) (script : ℕ → List Group) (origin : ℕ → List Origin)
    (answer : Packet) (request : ReqNo) (end : ℕ) : Type 0 where
  pub node : ℕ
  pub from : answer.from ≡ Node node
  pub extent : ℕ
  pub generation : ℕ
  pub asked : Contains (run_moves before w).post (packet answer.to answer.from (bodies.Check (Check extent generation request)))
  pub covers : Covers (script extent) (origin extent) (generation_of answer.to generation) end
  pub acked : (offset : ℕ) (group : Group) → Contains (run_moves (before ++ after) w).notes (Acked extent offset group) →
      EndsWithin (script extent) (origin extent) (generation_of answer.to generation) end offset group
  pub held : (n : ℕ) (r : Replica) → (run_moves (before ++ after) w).replica n extent ≡ Some r → is_place n r.content.places ≡ true →
      end ≤ text_length r.content.groups
  pub sealed : (other : ℕ) → Contains (run_moves (before ++ after) w).notes (SealedAt extent other) → end ≤ other
  pub not_below : (i : ℕ) (o : Origin) → slice_get (origin extent) i ≡ Some o → length before ≤ o.event →
      generation_of answer.to generation ≤ o.generation

-- the extent is still there, at its places and with its fence
pub record Stays (x : Extent) (found : Option Extent) : Type 0 where
  pub now : Extent
  pub is : found ≡ Some now
  pub places : now.places ≡ x.places
  pub fence : now.fence ≡ x.fence

-- What holds of the scripts of a run, in its later part: each extent keeps its fence, and each of its groups was appended
-- under that generation or a higher one; and each check that was answered before holds.
pub record FencesHold (before after : List Move) (w : StreamSystem) : Type 0 where
  pub origins : OriginsOfMoves (before ++ after) w
  pub stays : (e : ℕ) (x : Extent) → (run_moves before w).catalog.extent e ≡ Some x → Stays x ((run_moves (before ++ after) w).catalog.extent e)
  pub above : (e : ℕ) (x : Extent) (i : ℕ) (o : Origin) → (run_moves before w).catalog.extent e ≡ Some x → slice_get (origins.origin e) i ≡ Some o →
      x.fence ≤ o.generation
  pub checked : (answer : Packet) (request : ReqNo) (end : ℕ) → Contains (run_moves before w).post answer →
      answer.body ≡ bodies.Check (Checked request (Some end)) → Answers before after w origins.script origins.origin answer request end
