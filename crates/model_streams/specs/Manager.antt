-- The table of the stream manager: what it does with a packet or a call, as a function of its catalog.
use Rattle.std.specs.Prelude.{ℕ, suc, Bool, true, false, not, ◌&&◌, List, [], ◌∷◌, ◌++◌, Option, Some, None, Result, Ok, Err, ◌==◌, nat_lt, nat_le, if◌then◌else◌}
use Rattle.block_types.specs.declared.record.Nodes.{Nodes}
use Rattle.block_types.specs.declared.record.Record.{Record}
use Rattle.block_types.specs.declared.record.Record.TheVariants.{Manage}
use Rattle.block_types.specs.Limits.{are_nodes}
use Rattle.wire.specs.declared.actor.ActorId.{ActorId}
use Rattle.wire.specs.declared.actor.ActorId.TheVariants.{Node, Manager}
use Rattle.wire.specs.declared.actor.ReqNo.{ReqNo}
use Rattle.wire.specs.declared.body.SealBody.{SealBody}
use Rattle.wire.specs.declared.body.SealBody.TheVariants.{Make, SealExtent, SealedIs, Freeze, Frozen, Seal, IsSealed, Short, SendTail}
use Rattle.wire.specs.declared.body.StreamBody.{StreamBody}
use Rattle.wire.specs.declared.body.StreamBody.TheVariants.{CreateStream, Created, OpenStreams, Opened, Confirm, Confirmed, Extend, Extended, Trim, Trimmed, MultiModify, Modified}
use Rattle.wire.specs.declared.body.Body.{Body}
use Rattle.wire.specs.declared.body.Body.TheVariants as bodies
use Rattle.wire.specs.declared.note.Note.TheVariants as notes
use Rattle.wire.specs.declared.packet.Packet.{Packet}
use Rattle.wire.specs.declared.refusal.Refusal.{Refusal}
use Rattle.wire.specs.declared.refusal.Refusal.TheVariants.{NoSuchExtent, Stale, NoReply, NoSuchStream, NameTaken, BadPick}
use Rattle.wire.specs.declared.streams.Modify.{Modify}
use Rattle.wire.specs.declared.streams.StreamExtent.{StreamExtent}
use Rattle.wire.specs.declared.streams.StreamList.{StreamList}
use Rattle.wire.specs.declared.streams.StreamLists.{StreamLists}
use Rattle.wire.specs.declared.streams.StreamName.{StreamName}
use Rattle.streams.specs.Streams.{Stream, Streams, stream_of, base_of, empty_stream, has_four, all_pass, create_fault, created, opened, extended as extended_streams, extending, modified, modify_fault, trimmed, trimming}
pub use Rattle.streams.specs.Streams.{is_there}
use Rattle.model_streams.specs.declared.extent.Asker.{Asker}
use Rattle.model_streams.specs.declared.extent.Extent.{Extent}
use Rattle.model_streams.specs.declared.extent.PlaceReport.{PlaceReport}
use Rattle.model_streams.specs.declared.manager_record.ManagerRecord.{ManagerRecord}
use Rattle.model_streams.specs.declared.manager_record.ManagerRecord.TheVariants as manager_records
use Rattle.model_streams.specs.Actors.{is_node, is_user, generation_of}
use Rattle.model_streams.specs.RecordBytes.{spelled}
use Rattle.model_streams.specs.Maps.{changed}
use Rattle.model_streams.specs.Outcome.{Outcome, packet, first_met, silent, sends, refused, or_refused}

-- a place that has told nothing
abbrev pub unheard : PlaceReport
unheard = record { frozen = None; sealed = false }

-- an open extent, of which no place has told anything
abbrev pub new_extent : Nodes → ℕ → Extent
new_extent places fence =
    record { places = places; fence = fence; sealed = None; primary = unheard; second = unheard; third = unheard; asker = None }

-- without what a stop drops
abbrev pub forgotten : Extent → Extent
forgotten x = record x { primary = unheard; second = unheard; third = unheard; asker = None }

abbrev pub forgotten_if : Option Extent → Option Extent
forgotten_if None = None
forgotten_if (Some x) = Some (forgotten x)

-- the nodes are numbered from 1, and so are the extents
pub record Catalog : Type 0 where
  pub nodes : ℕ
  pub target : ℕ
  pub count : ℕ
  pub stream : Streams
  pub extent : ℕ → Option Extent

-- range 1 has four empty streams
abbrev pub first_streams : Streams
first_streams range kind = if (range == 1) && nat_le kind 3 then Some (empty_stream 0) else None

abbrev pub first_catalog : ℕ → ℕ → Catalog
first_catalog nodes target =
    record { nodes = nodes; target = target; count = 0; stream = first_streams; extent = λ e. None }

-- what a stop leaves of the catalog
abbrev pub catalog_stopped : Catalog → Catalog
catalog_stopped b = record b { extent = λ e. forgotten_if (b.extent e) }

-- a record of the manager
abbrev pub writes : ManagerRecord → Option Record
writes r = Some (Manage (spelled r))

-- to each place, in order
abbrev pub each_place : Nodes → Body → List Packet
each_place places body =
    packet Manager (Node places.primary) body ∷ packet Manager (Node places.second) body ∷ packet Manager (Node places.third) body ∷ []

abbrev pub answer : Catalog → Packet → StreamBody → Outcome Catalog
answer b p body = sends b (packet Manager p.from (bodies.Stream body) ∷ [])

abbrev pub with_streams : Catalog → Streams → Catalog
with_streams b streams = record b { stream = streams }

abbrev pub with_extent : Catalog → ℕ → Extent → Catalog
with_extent b e x = record b { extent = changed e (Some x) b.extent }

-- with one more extent, at the end of a stream, and made with this fence
abbrev pub extended : Catalog → StreamName → ℕ → Nodes → Catalog
extended b s fence pick =
    record b {
      count = suc b.count;
      stream = extended_streams b.stream s (suc b.count);
      extent = changed (suc b.count) (Some (new_extent pick fence)) b.extent;
    }

-- users have the streams of range 0, and no others
abbrev pub is_foreign : ActorId → ℕ → Bool
is_foreign from range = is_user from && not (range == 0)

-- ---- CreateStream

abbrev pub create_tests : Catalog → Packet → StreamName → List (Refusal × Bool)
create_tests b p s = (Stale, is_foreign p.from s.range) ∷ (NameTaken, is_there (create_fault b.stream s)) ∷ []

abbrev pub create_refusal : Catalog → Packet → StreamName → Option Refusal
create_refusal b p s = first_met (create_tests b p s)

-- a new stream has no extent
abbrev pub create_taken : Catalog → Packet → StreamName → ℕ → ReqNo → Outcome Catalog
create_taken b p s fence q =
    record {
      after = with_streams b (created b.stream s fence);
      written = writes (manager_records.CreateStream s fence);
      packets = packet Manager p.from (bodies.Stream (Created q)) ∷ [];
      notes = [];
    }

abbrev pub create_rule : Catalog → Packet → StreamName → ℕ → ReqNo → Outcome Catalog
create_rule b p s fence q = or_refused b Manager p q (create_refusal b p s) (create_taken b p s fence q)

-- ---- OpenStreams

abbrev pub open_tests : Catalog → Packet → ℕ → ℕ → List (Refusal × Bool)
open_tests b p range generation =
    (Stale, is_user p.from)
    ∷ (NoSuchStream, not (has_four b.stream range))
    ∷ (Stale, not (all_pass (λ x. nat_lt x.fence generation) b.stream range))
    ∷ []

abbrev pub open_refusal : Catalog → Packet → ℕ → ℕ → Option Refusal
open_refusal b p range generation = first_met (open_tests b p range generation)

-- what is told of an extent
abbrev pub told_of : ℕ → Extent → StreamExtent
told_of e x = record { extent = e; places = x.places; length = x.sealed }

abbrev pub told_before : ℕ → Option Extent → List StreamExtent → List StreamExtent
told_before e None rest = rest
told_before e (Some x) rest = told_of e x ∷ rest

abbrev pub told_extents : (ℕ → Option Extent) → List ℕ → List StreamExtent
told_extents extent [] = []
told_extents extent (e ∷ es) = told_before e (extent e) (told_extents extent es)

abbrev pub told_stream : (ℕ → Option Extent) → Option Stream → StreamList
told_stream extent None = record { base = 0; extents = [] }
told_stream extent (Some x) = record { base = base_of x; extents = told_extents extent x.extents }

abbrev pub told_streams : Catalog → ℕ → StreamLists
told_streams b range =
    record {
      metadata = told_stream b.extent (b.stream range 0);
      log = told_stream b.extent (b.stream range 1);
      row_data = told_stream b.extent (b.stream range 2);
      blob_data = told_stream b.extent (b.stream range 3);
    }

-- the fences of the four rise to the generation, and their extents are told
abbrev pub open_taken : Catalog → Packet → ℕ → ℕ → ReqNo → Outcome Catalog
open_taken b p range generation q =
    record {
      after = with_streams b (opened b.stream range generation);
      written = writes (manager_records.OpenStreams range generation);
      packets = packet Manager p.from (bodies.Stream (Opened q (told_streams b range))) ∷ [];
      notes = [];
    }

abbrev pub open_rule : Catalog → Packet → ℕ → ℕ → ReqNo → Outcome Catalog
open_rule b p range generation q = or_refused b Manager p q (open_refusal b p range generation) (open_taken b p range generation q)

-- ---- Confirm

abbrev pub confirm_tests : Catalog → Packet → ℕ → ℕ → List (Refusal × Bool)
confirm_tests b p range generation =
    (Stale, is_user p.from)
    ∷ (NoSuchStream, not (has_four b.stream range))
    ∷ (Stale, not (all_pass (λ x. x.fence == generation) b.stream range))
    ∷ []

abbrev pub confirm_refusal : Catalog → Packet → ℕ → ℕ → Option Refusal
confirm_refusal b p range generation = first_met (confirm_tests b p range generation)

abbrev pub confirm_rule : Catalog → Packet → ℕ → ℕ → ReqNo → Outcome Catalog
confirm_rule b p range generation q =
    or_refused b Manager p q (confirm_refusal b p range generation) (answer b p (Confirmed q))

-- ---- Extend

-- three different nodes that the manager knows
abbrev pub is_pick : ℕ → Nodes → Bool
is_pick nodes pick = are_nodes pick && (nat_le pick.primary nodes && (nat_le pick.second nodes && nat_le pick.third nodes))

-- the length of an extent, where it is sealed
abbrev pub sealed_in : Option Extent → Option ℕ
sealed_in None = None
sealed_in (Some x) = x.sealed

abbrev pub sealed_lengths : Catalog → ℕ → Option ℕ
sealed_lengths b e = sealed_in (b.extent e)

-- one more extent at the end of a stream, and a replica of it at each place
abbrev pub extend_made : Catalog → Packet → StreamName → ℕ → Nodes → ReqNo → Outcome Catalog
extend_made b p s fence pick q =
    record {
      after = extended b s fence pick;
      written = writes (manager_records.Extend s fence pick);
      packets = each_place pick (bodies.Seal (Make (suc b.count) fence b.target pick))
          ++ packet Manager p.from (bodies.Stream (Extended q (suc b.count) pick)) ∷ [];
      notes = [];
    }

abbrev pub extend_picked : Catalog → Packet → StreamName → ℕ → Nodes → ReqNo → Outcome Catalog
extend_picked b p s generation pick q =
    if is_pick b.nodes pick then extend_made b p s generation pick q else refused b Manager p q BadPick

-- an extent is named to those who took another for the last
abbrev pub last_told : Catalog → Packet → ℕ → Option Extent → ReqNo → Outcome Catalog
last_told b p e None q = silent b
last_told b p e (Some x) q = answer b p (Extended q e x.places)

-- the generation has to be the fence of the stream, so its new extents are made with it
abbrev pub extend_answered : Catalog → Packet → StreamName → ℕ → Nodes → ReqNo → Result (Option ℕ) Refusal → Outcome Catalog
extend_answered b p s generation pick q (Err refusal) = refused b Manager p q refusal
extend_answered b p s generation pick q (Ok None) = extend_picked b p s generation pick q
extend_answered b p s generation pick q (Ok (Some e)) = last_told b p e (b.extent e) q

abbrev pub extend_rule : Catalog → Packet → StreamName → ℕ → Option ℕ → Nodes → ReqNo → Outcome Catalog
extend_rule b p s generation last pick q =
    if is_foreign p.from s.range then refused b Manager p q Stale
    else extend_answered b p s generation pick q (extending (sealed_lengths b) (stream_of b.stream s) generation last)

-- ---- Trim

-- the refusal, or whether extents leave the log
abbrev pub trim_answered : Catalog → Packet → ℕ → ℕ → Bool → ReqNo → Result Bool Refusal → Outcome Catalog
trim_answered b p range before to_blob q (Err refusal) = refused b Manager p q refusal
trim_answered b p range before to_blob q (Ok false) = answer b p (Trimmed q)
trim_answered b p range before to_blob q (Ok true) =
    record {
      after = with_streams b (trimmed b.stream range before to_blob);
      written = writes (manager_records.Trim range before to_blob);
      packets = packet Manager p.from (bodies.Stream (Trimmed q)) ∷ [];
      notes = [];
    }

abbrev pub trim_rule : Catalog → Packet → ℕ → ℕ → ℕ → Bool → ReqNo → Outcome Catalog
trim_rule b p range generation before to_blob q =
    if is_user p.from then refused b Manager p q Stale
    else trim_answered b p range before to_blob q (trimming b.stream range generation before)

-- ---- MultiModify

abbrev pub modify_refusal : Catalog → Packet → List Modify → Option Refusal
modify_refusal b p list = if is_user p.from then Some Stale else modify_fault (sealed_lengths b) b.stream list

-- the streams are built, all of them
abbrev pub modify_taken : Catalog → Packet → List Modify → ReqNo → Outcome Catalog
modify_taken b p list q =
    record {
      after = with_streams b (modified b.stream list);
      written = writes (manager_records.MultiModify list);
      packets = packet Manager p.from (bodies.Stream (Modified q)) ∷ [];
      notes = [];
    }

abbrev pub modify_rule : Catalog → Packet → List Modify → ReqNo → Outcome Catalog
modify_rule b p list q = or_refused b Manager p q (modify_refusal b p list) (modify_taken b p list q)

-- ---- SealExtent

-- what each place of an extent is told to do with its replica
abbrev pub closes : ℕ → Option ℕ → SealBody
closes e None = Freeze e
closes e (Some length) = Seal e length

-- each place is told to have a replica, and to close it
abbrev pub reminders : Catalog → ℕ → Extent → List Packet
reminders b e x = each_place x.places (bodies.Seal (Make e x.fence b.target x.places)) ++ each_place x.places (bodies.Seal (closes e x.sealed))

abbrev pub told_sealed : ActorId → ReqNo → ℕ → ℕ → List Packet
told_sealed who q e length = packet Manager who (bodies.Seal (SealedIs q e length)) ∷ []

-- the last one to ask is told of the seal
abbrev pub seal_asked : Catalog → Packet → ℕ → ReqNo → Extent → Option ℕ → Outcome Catalog
seal_asked b p e q x None =
    sends (with_extent b e (record x { asker = Some (record { who = p.from; request = q }) })) (reminders b e x)
seal_asked b p e q x (Some length) = sends b (reminders b e x ++ told_sealed p.from q e length)

abbrev pub seal_extent_rule : Catalog → Packet → ℕ → ReqNo → Option Extent → Outcome Catalog
seal_extent_rule b p e q None = refused b Manager p q NoSuchExtent
seal_extent_rule b p e q (Some x) = seal_asked b p e q x x.sealed

-- ---- Frozen and IsSealed

-- with what a place tells; none where the sender is no place
abbrev pub with_report : Extent → ActorId → (PlaceReport → PlaceReport) → Option Extent
with_report x from news =
    if is_node x.places.primary from then Some (record x { primary = news x.primary })
    else if is_node x.places.second from then Some (record x { second = news x.second })
    else if is_node x.places.third from then Some (record x { third = news x.third })
    else None

abbrev pub noted : Catalog → ℕ → Option Extent → Outcome Catalog
noted b e None = silent b
noted b e (Some x) = silent (with_extent b e x)

abbrev pub frozen_to : ℕ → PlaceReport → PlaceReport
frozen_to length report = record report { frozen = Some length }

abbrev pub known_sealed : PlaceReport → PlaceReport
known_sealed report = record report { sealed = true }

-- the length is noted while the extent is unsealed
abbrev pub frozen_rule : Catalog → Packet → ℕ → ℕ → Option Extent → Outcome Catalog
frozen_rule b p e length None = silent b
frozen_rule b p e length (Some x) = if is_there x.sealed then silent b else noted b e (with_report x p.from (frozen_to length))

abbrev pub is_sealed_rule : Catalog → Packet → ℕ → Option Extent → Outcome Catalog
is_sealed_rule b p e None = silent b
is_sealed_rule b p e (Some x) = noted b e (with_report x p.from known_sealed)

-- ---- Short

abbrev pub place_of : Nodes → ActorId → Option ℕ
place_of places from =
    if is_node places.primary from then Some places.primary
    else if is_node places.second from then Some places.second
    else if is_node places.third from then Some places.third
    else None

-- the first place that is known to be sealed
abbrev pub first_sealed : Extent → Option ℕ
first_sealed x =
    if x.primary.sealed then Some x.places.primary
    else if x.second.sealed then Some x.places.second
    else if x.third.sealed then Some x.places.third
    else None

abbrev pub asks_tail : Catalog → ℕ → ℕ → Option ℕ → Option ℕ → Outcome Catalog
asks_tail b e from (Some to) (Some n) = sends b (packet Manager (Node n) (bodies.Seal (SendTail e from to)) ∷ [])
asks_tail b e from to None = silent b
asks_tail b e from None n = silent b

abbrev pub short_rule : Catalog → Packet → ℕ → ℕ → Option Extent → Outcome Catalog
short_rule b p e length None = silent b
short_rule b p e length (Some x) =
    if is_there x.sealed then asks_tail b e length (place_of x.places p.from) (first_sealed x) else silent b

-- ---- decide

abbrev pub lesser_of : Option ℕ → Option ℕ → Option ℕ
lesser_of None b = b
lesser_of (Some a) None = Some a
lesser_of (Some a) (Some b) = Some (if nat_le a b then a else b)

-- the least length that a place has told
abbrev pub least_told : Extent → Option ℕ
least_told x = lesser_of x.primary.frozen (lesser_of x.second.frozen x.third.frozen)

abbrev pub tells_asker : ℕ → ℕ → Option Asker → List Packet
tells_asker e length None = []
tells_asker e length (Some asker) = told_sealed asker.who asker.request e length

abbrev pub sealed_to : Extent → ℕ → Extent
sealed_to x length = record x { sealed = Some length; asker = None }

abbrev pub decided : Catalog → ℕ → Extent → ℕ → Outcome Catalog
decided b e x length =
    record {
      after = with_extent b e (sealed_to x length);
      written = writes (manager_records.Seal e length);
      packets = reminders b e (sealed_to x length) ++ tells_asker e length x.asker;
      notes = notes.SealedAt e length ∷ [];
    }

abbrev pub decided_if : Catalog → ℕ → Extent → Option ℕ → Outcome Catalog
decided_if b e x None = silent b
decided_if b e x (Some length) = decided b e x length

-- what is sealed stays so, and its places are told again
abbrev pub decide_rule : Catalog → ℕ → Option Extent → Outcome Catalog
decide_rule b e None = silent b
decide_rule b e (Some x) = if is_there x.sealed then sends b (reminders b e x) else decided_if b e x (least_told x)

-- why an extent cannot be sealed
abbrev pub decide_refusal : Option Extent → Option Refusal
decide_refusal None = Some NoSuchExtent
decide_refusal (Some x) = first_met ((NoReply, not (is_there x.sealed) && not (is_there (least_told x))) ∷ [])

-- ---- the table

-- a user counts with generation 0
abbrev pub stream_body_rule : Catalog → Packet → StreamBody → Outcome Catalog
stream_body_rule b p (CreateStream s fence q) = create_rule b p s (generation_of p.from fence) q
stream_body_rule b p (OpenStreams range generation q) = open_rule b p range generation q
stream_body_rule b p (Confirm range generation q) = confirm_rule b p range generation q
stream_body_rule b p (Extend s generation last pick q) = extend_rule b p s (generation_of p.from generation) last pick q
stream_body_rule b p (Trim range generation before to_blob q) = trim_rule b p range generation before to_blob q
stream_body_rule b p (MultiModify list q) = modify_rule b p list q
stream_body_rule b p body = silent b

abbrev pub seal_body_rule : Catalog → Packet → SealBody → Outcome Catalog
seal_body_rule b p (SealExtent e q) = seal_extent_rule b p e q (b.extent e)
seal_body_rule b p (Frozen e length) = frozen_rule b p e length (b.extent e)
seal_body_rule b p (IsSealed e) = is_sealed_rule b p e (b.extent e)
seal_body_rule b p (Short e length) = short_rule b p e length (b.extent e)
seal_body_rule b p body = silent b

-- what the manager does with a packet
abbrev pub manager_rule : Catalog → Packet → Body → Outcome Catalog
manager_rule b p (bodies.Stream body) = stream_body_rule b p body
manager_rule b p (bodies.Seal body) = seal_body_rule b p body
manager_rule b p body = silent b
