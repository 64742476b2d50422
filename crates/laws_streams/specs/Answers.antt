-- What an answer says for good: what it answers was asked, under the same number, by the one who is answered; and it tells
-- what the one who answers had then, which is kept.
use Rattle.std.specs.Prelude.{◌≡◌, ◌≢◌, ◌⊎◌, ℕ, ◌+◌, ◌≤◌, Bool, true, false, List, [], ◌∷◌, ◌++◌, take, Option, Some, None, slice_get, Contains}
use Rattle.block_types.specs.declared.record.Nodes.{Nodes}
use Rattle.wire.specs.declared.actor.ActorId.{ActorId}
use Rattle.wire.specs.declared.actor.ActorId.TheVariants.{Node, Manager}
use Rattle.wire.specs.declared.actor.ReqNo.{ReqNo}
use Rattle.wire.specs.declared.body.AppendBody.TheVariants.{Append, Appended}
use Rattle.wire.specs.declared.body.ReadBody.TheVariants.{ReadGroups, Groups, Bytes}
use Rattle.wire.specs.declared.body.SealBody.TheVariants.{SealExtent, SealedIs}
use Rattle.wire.specs.declared.body.StreamBody.TheVariants.{OpenStreams, Opened, Confirm, Confirmed, Extend, Extended, Trim, MultiModify}
use Rattle.wire.specs.declared.body.Body.TheVariants as bodies
use Rattle.wire.specs.declared.note.Note.TheVariants.{Acked, SealedAt, Seen}
use Rattle.wire.specs.declared.streams.Modify.{Modify}
use Rattle.wire.specs.declared.streams.Source.{Source}
use Rattle.wire.specs.declared.streams.StreamLists.{StreamLists}
use Rattle.wire.specs.declared.streams.StreamName.{StreamName}
use Rattle.replica.specs.Groups.{Group, size, text_length}
use Rattle.replica.specs.Replay.{is_place}
use Rattle.streams.specs.Streams.{Stream, stream_of, base_of, log_name, last_of, longer}
use Rattle.model_streams.specs.declared.extent.Extent.{Extent}
use Rattle.model_streams.specs.Actors.{is_user, generation_of}
use Rattle.model_streams.specs.Manager.{Catalog, new_extent, sealed_lengths, told_streams}
use Rattle.model_streams.specs.Node.{Replica}
use Rattle.model_streams.specs.Outcome.{packet}
use Rattle.model_streams.specs.StreamSystem.{StreamSystem, Move, moved, run_moves}
use Rattle.laws_streams.specs.Origins.{Origin, Begins, DecidedSeal, course_of_moves}
use Rattle.laws_streams.specs.Fences.{Reaches, Opens, Confirms, FencesHold}

-- ---- streams

-- one of these moves opened the range for the generation, by the packet that asked, and the streams are told as they were
-- before it
pub record OpenedBy (moves : List Move) (w : StreamSystem) (from to : ActorId) (request : ReqNo) (lists : StreamLists) : Type 0 where
  pub teller : from ≡ Manager
  pub range : ℕ
  pub generation : ℕ
  pub asked : Contains (run_moves moves w).post (packet to Manager (bodies.Stream (OpenStreams range generation request)))
  pub past : List Move
  pub opening : Move
  pub rest : List Move
  pub split : moves ≡ past ++ opening ∷ rest
  pub opens : Opens (run_moves past w) opening range generation
  pub same : opens.packet ≡ packet to Manager (bodies.Stream (OpenStreams range generation request))
  pub told : lists ≡ told_streams (run_moves past w).catalog range

abbrev pub OpeningsAnswered : List Move → StreamSystem → Type 0
OpeningsAnswered moves w = (from to : ActorId) (request : ReqNo) (lists : StreamLists) →
    Contains (run_moves moves w).post (packet from to (bodies.Stream (Opened request lists))) → OpenedBy moves w from to request lists

-- one of these moves confirmed the generation, by the packet that asked
pub record ConfirmedBy (moves : List Move) (w : StreamSystem) (from to : ActorId) (request : ReqNo) : Type 0 where
  pub teller : from ≡ Manager
  pub range : ℕ
  pub generation : ℕ
  pub asked : Contains (run_moves moves w).post (packet to Manager (bodies.Stream (Confirm range generation request)))
  pub past : List Move
  pub confirming : Move
  pub rest : List Move
  pub split : moves ≡ past ++ confirming ∷ rest
  pub confirms : Confirms (run_moves past w) confirming range generation
  pub same : confirms.packet ≡ packet to Manager (bodies.Stream (Confirm range generation request))

abbrev pub ConfirmationsAnswered : List Move → StreamSystem → Type 0
ConfirmationsAnswered moves w = (from to : ActorId) (request : ReqNo) →
    Contains (run_moves moves w).post (packet from to (bodies.Stream (Confirmed request))) → ConfirmedBy moves w from to request

-- the stream has no extent, or its last one is the one that was named, and is sealed
abbrev pub MayGrow : Catalog → Stream → Option ℕ → Type 0
MayGrow b x named =
    (last_of x.extents ≡ None)
    ⊎ ((e : ℕ) × (last_of x.extents ≡ Some e) × (named ≡ Some e) × ((length : ℕ) × (sealed_lengths b e ≡ Some length)))

-- from b to c the stream gained a new extent
pub record Grows (b c : Catalog) (name : StreamName) (x : Stream) (named : Option ℕ) (fence e : ℕ) (places : Nodes) : Type 0 where
  pub may : MayGrow b x named
  pub unmade : b.extent e ≡ None
  pub longer : stream_of c.stream name ≡ Some (longer e x)
  pub made : c.extent e ≡ Some (new_extent places fence)

-- another extent than the one that was named is the last, and nothing changed
pub record Corrects (b c : Catalog) (x : Stream) (named : Option ℕ) (e : ℕ) (places : Nodes) : Type 0 where
  pub last : last_of x.extents ≡ Some e
  pub other : named ≢ Some e
  pub extent : Extent
  pub there : b.extent e ≡ Some extent
  pub at : extent.places ≡ places
  pub same : c ≡ b

-- one of these moves brought the request to the manager, whose stream had that generation for its fence: the extent was its
-- last one then, or was added
pub record ExtendedBy (moves : List Move) (w : StreamSystem) (from to : ActorId) (request : ReqNo) (e : ℕ) (places : Nodes) : Type 0 where
  pub teller : from ≡ Manager
  pub name : StreamName
  pub generation : ℕ
  pub last : Option ℕ
  pub pick : Nodes
  pub asked : Contains (run_moves moves w).post (packet to Manager (bodies.Stream (Extend name generation last pick request)))
  pub past : List Move
  pub extending : Move
  pub rest : List Move
  pub split : moves ≡ past ++ extending ∷ rest
  pub reaches : Reaches (run_moves past w) extending (packet to Manager (bodies.Stream (Extend name generation last pick request)))
  pub stream : Stream
  pub there : stream_of (run_moves past w).catalog.stream name ≡ Some stream
  pub fence : generation_of to generation ≡ stream.fence
  pub answer : Grows (run_moves past w).catalog (moved (run_moves past w) extending).catalog name stream last stream.fence e places
      ⊎ Corrects (run_moves past w).catalog (moved (run_moves past w) extending).catalog stream last e places

abbrev pub ExtensionsAnswered : List Move → StreamSystem → Type 0
ExtensionsAnswered moves w = (from to : ActorId) (request : ReqNo) (e : ℕ) (places : Nodes) →
    Contains (run_moves moves w).post (packet from to (bodies.Stream (Extended request e places))) → ExtendedBy moves w from to request e places

-- ---- bases

-- one of these moves brought to the manager a Trim of the range's log below this index, by one that is no user; its generation
-- was the log's fence then, which has not fallen since
pub record TrimmedBy (moves : List Move) (w : StreamSystem) (range base fence : ℕ) : Type 0 where
  pub from : ActorId
  pub no_user : is_user from ≡ false
  pub generation : ℕ
  pub to_blob : Bool
  pub request : ReqNo
  pub asked : Contains (run_moves moves w).post (packet from Manager (bodies.Stream (Trim range generation base to_blob request)))
  pub past : List Move
  pub trimming : Move
  pub rest : List Move
  pub split : moves ≡ past ++ trimming ∷ rest
  pub reaches : Reaches (run_moves past w) trimming (packet from Manager (bodies.Stream (Trim range generation base to_blob request)))
  pub log : Stream
  pub there : stream_of (run_moves past w).catalog.stream (log_name range) ≡ Some log
  pub held : generation ≡ log.fence
  pub under : generation ≤ fence

-- one of these moves brought to the manager a MultiModify, by one that is no user, that builds the range's log, and first of all
-- from the log of this other range, under a generation that is no higher than this fence
pub record BuiltBy (moves : List Move) (w : StreamSystem) (range source fence : ℕ) : Type 0 where
  pub from : ActorId
  pub no_user : is_user from ≡ false
  pub list : List Modify
  pub request : ReqNo
  pub asked : Contains (run_moves moves w).post (packet from Manager (bodies.Stream (MultiModify list request)))
  pub past : List Move
  pub building : Move
  pub rest : List Move
  pub split : moves ≡ past ++ building ∷ rest
  pub reaches : Reaches (run_moves past w) building (packet from Manager (bodies.Stream (MultiModify list request)))
  pub entry : Modify
  pub among : Contains list entry
  pub name : entry.stream ≡ log_name range
  pub generation : ℕ
  pub others : List Source
  pub sources : entry.sources ≡ record { stream = log_name source; generation = generation } ∷ others
  pub under : generation ≤ fence

-- The base was named by such a Trim of the range's log; or, by the time that this one was built, of the log that it was built from;
-- and so on. These are the ranges of the logs on the way.
abbrev pub NamedThrough : List ℕ → List Move → StreamSystem → ℕ → ℕ → ℕ → Type 0
NamedThrough [] moves w range base fence = TrimmedBy moves w range base fence
NamedThrough (source ∷ through) moves w range base fence =
    (b : BuiltBy moves w range source fence) × NamedThrough through (b.past ++ b.building ∷ []) w source base b.generation

-- the base of a log is 0, or was named so
abbrev pub BasesTrimmed : List Move → StreamSystem → Type 0
BasesTrimmed moves w = (range : ℕ) (x : Stream) → stream_of (run_moves moves w).catalog.stream (log_name range) ≡ Some x →
    (base_of x ≡ 0) ⊎ ((through : List ℕ) × NamedThrough through moves w range (base_of x) x.fence)

-- ---- seals

-- the catalog has the extent, sealed at this length
pub record SealedIn (b : Catalog) (e length : ℕ) : Type 0 where
  pub extent : Extent
  pub there : b.extent e ≡ Some extent
  pub sealed : extent.sealed ≡ Some length

-- the seal was asked for, a decision among these moves made it, and it stays
pub record SealTold (before after : List Move) (w : StreamSystem) (from to : ActorId) (request : ReqNo) (e length : ℕ) : Type 0 where
  pub teller : from ≡ Manager
  pub asked : Contains (run_moves before w).post (packet to Manager (bodies.Seal (SealExtent e request)))
  pub decided : DecidedSeal (course_of_moves before w) e length
  pub now : SealedIn (run_moves before w).catalog e length
  pub later : SealedIn (run_moves (before ++ after) w).catalog e length

abbrev pub SealsAnswered : List Move → List Move → StreamSystem → Type 0
SealsAnswered before after w = (from to : ActorId) (request : ReqNo) (e length : ℕ) →
    Contains (run_moves before w).post (packet from to (bodies.Seal (SealedIs request e length))) → SealTold before after w from to request e length

-- ---- what extents have

-- the groups begin the script, and end where it was asked; where a seal was asked for, the extent is sealed, no shorter
pub record ReadBy (before after : List Move) (w : StreamSystem) (script : ℕ → List Group) (from to : ActorId) (request : ReqNo) (e : ℕ)
    (groups : List Group) : Type 0 where
  pub node : ℕ
  pub teller : from ≡ Node node
  pub upto : ℕ
  pub sealed : Bool
  pub asked : Contains (run_moves before w).post (packet to from (bodies.Read (ReadGroups e upto sealed request)))
  pub begins : Begins groups (script e)
  pub ends : text_length groups ≡ upto
  pub whole : sealed ≡ true → (length : ℕ) × SealedIn (run_moves before w).catalog e length
      × SealedIn (run_moves (before ++ after) w).catalog e length × (upto ≤ length)

-- the blocks were appended by the packet that asked, stand in the script at that offset, and are acknowledged there; each
-- place has them, and the extent is never sealed before their end
pub record AppendedBy (before after : List Move) (w : StreamSystem) (script : ℕ → List Group) (origin : ℕ → List Origin) (from to : ActorId)
    (request : ReqNo) (e offset : ℕ) : Type 0 where
  pub node : ℕ
  pub teller : from ≡ Node node
  pub generation : ℕ
  pub blocks : Group
  pub asked : Contains (run_moves before w).post (packet to from (bodies.Append (Append e generation blocks request)))
  pub index : ℕ
  pub source : Origin
  pub is : slice_get (script e) index ≡ Some blocks
  pub start : text_length (take index (script e)) ≡ offset
  pub appended : slice_get (origin e) index ≡ Some source
  pub counted : source.generation ≡ generation_of to generation
  pub number : source.request ≡ request
  pub noted : Contains (run_moves before w).notes (Acked e offset blocks)
  pub held : (n : ℕ) (r : Replica) → (run_moves (before ++ after) w).replica n e ≡ Some r → is_place n r.content.places ≡ true →
      offset + size blocks ≤ text_length r.content.groups
  pub sealed : (length : ℕ) → SealedIn (run_moves (before ++ after) w).catalog e length → offset + size blocks ≤ length
  pub shown : (length : ℕ) → Contains (run_moves (before ++ after) w).notes (SealedAt e length) → offset + size blocks ≤ length

-- What holds of the scripts of a run in its later part: what fences are for, and each reading and each append that was
-- answered before holds.
pub record ContentAnswered (before after : List Move) (w : StreamSystem) : Type 0 where
  pub fences : FencesHold before after w
  pub groups : (from to : ActorId) (request : ReqNo) (e : ℕ) (groups : List Group) →
      Contains (run_moves before w).post (packet from to (bodies.Read (Groups request e groups))) →
      ReadBy before after w fences.origins.script from to request e groups
  pub appended : (from to : ActorId) (request : ReqNo) (e offset : ℕ) →
      Contains (run_moves before w).post (packet from to (bodies.Append (Appended request e offset))) →
      AppendedBy before after w fences.origins.script fences.origins.origin from to request e offset
  -- bytes that were read were observed, at the node that answers or at another
  pub bytes : (from to : ActorId) (request : ReqNo) (e offset : ℕ) (bytes : List ℕ) →
      Contains (run_moves before w).post (packet from to (bodies.Read (Bytes request e offset bytes))) →
      (n : ℕ) × Contains (run_moves before w).notes (Seen e n offset bytes)
