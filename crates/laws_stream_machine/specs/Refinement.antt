-- How a stream of the stream system is one stream of the machine: what each request of a server is for, and what each answer to it
-- means.
use Rattle.std.specs.Prelude.{◌≡◌, ℕ, suc, ◌==◌, ◌+◌, ◌-◌, ◌<◌, ◌≤◌, true, List, [], ◌∷◌, length, map, Option, Some, None, slice_get, if◌then◌else◌, Contains}
use Rattle.wire.specs.declared.actor.ActorId.{ActorId}
use Rattle.wire.specs.declared.actor.ActorId.TheVariants.{Server}
use Rattle.wire.specs.declared.actor.ReqNo.{ReqNo}
use Rattle.wire.specs.declared.body.AppendBody.{AppendBody}
use Rattle.wire.specs.declared.body.AppendBody.TheVariants.{Append, Appended}
use Rattle.wire.specs.declared.body.CheckBody.{CheckBody}
use Rattle.wire.specs.declared.body.CheckBody.TheVariants.{Check, Checked as CheckedAt}
use Rattle.wire.specs.declared.body.ReadBody.{ReadBody}
use Rattle.wire.specs.declared.body.ReadBody.TheVariants.{ReadGroups, Groups}
use Rattle.wire.specs.declared.body.SealBody.{SealBody}
use Rattle.wire.specs.declared.body.SealBody.TheVariants.{SealExtent, SealedIs}
use Rattle.wire.specs.declared.body.StreamBody.{StreamBody}
use Rattle.wire.specs.declared.body.StreamBody.TheVariants.{OpenStreams, Opened, Confirm, Confirmed, Extend, Extended, MultiModify}
use Rattle.wire.specs.declared.body.Body.{Body}
use Rattle.wire.specs.declared.body.Body.TheVariants as bodies
use Rattle.wire.specs.declared.streams.Modify.{Modify}
use Rattle.wire.specs.declared.streams.StreamExtent.{StreamExtent}
use Rattle.wire.specs.declared.streams.StreamKind.{StreamKind}
use Rattle.wire.specs.declared.streams.StreamKind.TheVariants as kinds
use Rattle.wire.specs.declared.streams.StreamList.{StreamList}
use Rattle.wire.specs.declared.streams.StreamLists.{StreamLists}
use Rattle.wire.specs.declared.streams.StreamName.{StreamName}
use Rattle.replica.specs.Groups.{Group, size}
use Rattle.streams.specs.Streams.{Stream, stream_of, whole}
use Rattle.client.specs.Requests.{is_same}
use Rattle.model_streams.specs.Manager.{sealed_lengths}
use Rattle.model_streams.specs.Outcome.{packet}
use Rattle.model_streams.specs.StreamSystem.{StreamSystem}
use Rattle.model_histories.specs.Story.{Copy}
use Rattle.model_partition.specs.Answering.{answered_number, is_answerer}
use Rattle.model_histories.specs.StreamMachine as machine

-- ---- requests

-- What a request of a server is for: of which incarnation of the range it is, and what it asks of the extent of an index.
pub data Purpose : Type 0 where
  Opens : (i : ℕ) → Purpose
  Checks : (i index : ℕ) → Purpose
  Seals : (i index : ℕ) → Purpose
  Reads : (i index upto : ℕ) → Purpose
  Confirms : (i : ℕ) (read : List (Copy Group)) (end : ℕ) → Purpose
  Appends : (i index append : ℕ) (group : Group) → Purpose
  Extends : (i n : ℕ) → Purpose

-- a request that was sent, by its number
pub record Sent : Type 0 where
  pub request : ReqNo
  pub purpose : Purpose

-- the newest first; each number stands for one purpose
abbrev pub purpose_of : List Sent → ReqNo → Option Purpose
purpose_of [] q = None
purpose_of (s ∷ sent) q = if is_same s.request q then Some s.purpose else purpose_of sent q

-- ---- the extents of a stream

-- by their indexes, those that have left it first
abbrev pub extents_of : Option Stream → List ℕ
extents_of None = []
extents_of (Some x) = whole x

-- the whole list of the stream, as the manager has it
abbrev pub extents_in : StreamSystem → StreamName → List ℕ
extents_in w name = extents_of (stream_of w.catalog.stream name)

-- the extent of an index
abbrev pub IsAt : StreamSystem → StreamName → ℕ → ℕ → Type 0
IsAt w name index e = slice_get (extents_in w name) index ≡ Some e

-- there is the stream
abbrev pub IsThere : StreamSystem → StreamName → Type 0
IsThere w name = (x : Stream) × (stream_of w.catalog.stream name ≡ Some x)

-- the same of an extent that is not sealed
abbrev pub IsUnsealedAt : StreamSystem → StreamName → ℕ → ℕ → Type 0
IsUnsealedAt w name index e = IsAt w name index e × (sealed_lengths w.catalog e ≡ None)

-- where n extents are known, the last one of them
abbrev pub last_known : List ℕ → ℕ → Option ℕ
last_known extents n = if n == 0 then None else slice_get extents (n - 1)

-- how many extents there are up to the end of a list that is told
abbrev pub known_of : StreamList → ℕ
known_of list = list.base + length list.extents

-- ---- what servers ask

-- the number of a request that can have a purpose
abbrev pub asked_number : Body → Option ReqNo
asked_number (bodies.Append (Append e g blocks q)) = Some q
asked_number (bodies.Check (Check e g q)) = Some q
asked_number (bodies.Read (ReadGroups e upto sealed q)) = Some q
asked_number (bodies.Seal (SealExtent e q)) = Some q
asked_number (bodies.Stream (OpenStreams range g q)) = Some q
asked_number (bodies.Stream (Confirm range g q)) = Some q
asked_number (bodies.Stream (Extend stream g last pick q)) = Some q
asked_number body = None

-- the number of an answer that says for good what the machine needs of it
abbrev pub append_meant : AppendBody → Option ReqNo
append_meant (Appended q e offset) = Some q
append_meant body = None

abbrev pub check_meant : CheckBody → Option ReqNo
check_meant (CheckedAt q (Some found)) = Some q
check_meant body = None

abbrev pub stream_meant : StreamBody → Option ReqNo
stream_meant (Opened q lists) = Some q
stream_meant (Confirmed q) = Some q
stream_meant (Extended q e places) = Some q
stream_meant body = None

abbrev pub meant_number : Body → Option ReqNo
meant_number (bodies.Append body) = append_meant body
meant_number (bodies.Check body) = check_meant body
meant_number (bodies.Stream body) = stream_meant body
meant_number body = None

module _ (generation : ℕ → ℕ) (name : StreamName) (w : StreamSystem) (s : machine.MachineState Group) (sent : List Sent) where
  pub record AsksToOpen (g : ℕ) (q : ReqNo) : Type 0 where
    pub i : ℕ
    pub for : purpose_of sent q ≡ Some (Opens i)
    pub under : generation i ≡ g
    pub fact : machine.In (machine.AsksOpen i) s.facts

  pub record AsksToConfirm (g : ℕ) (q : ReqNo) : Type 0 where
    pub i : ℕ
    pub read : List (Copy Group)
    pub end : ℕ
    pub for : purpose_of sent q ≡ Some (Confirms i read end)
    pub under : generation i ≡ g
    pub fact : machine.In (machine.AsksConfirm i read end) s.facts

  pub record AsksToExtend (g : ℕ) (last : Option ℕ) (q : ReqNo) : Type 0 where
    pub i : ℕ
    pub n : ℕ
    pub for : purpose_of sent q ≡ Some (Extends i n)
    pub under : generation i ≡ g
    pub known : n ≤ length (extents_in w name)
    pub last_is : last ≡ last_known (extents_in w name) n
    pub fact : machine.In (machine.AsksExtend i n) s.facts

  pub record AsksToCheck (g e index : ℕ) (q : ReqNo) : Type 0 where
    pub i : ℕ
    pub for : purpose_of sent q ≡ Some (Checks i index)
    pub under : generation i ≡ g
    pub fact : machine.In (machine.AsksCheck i index) s.facts

  pub record AsksToAppend (g e index : ℕ) (group : Group) (q : ReqNo) : Type 0 where
    pub i : ℕ
    pub append : ℕ
    pub for : purpose_of sent q ≡ Some (Appends i index append group)
    pub under : generation i ≡ g
    pub fact : machine.In (machine.AsksAppend i index append group) s.facts

  pub record AsksToRead (e index upto : ℕ) (q : ReqNo) : Type 0 where
    pub i : ℕ
    pub for : purpose_of sent q ≡ Some (Reads i index upto)

  pub record AsksToSeal (e index : ℕ) (q : ReqNo) : Type 0 where
    pub i : ℕ
    pub for : purpose_of sent q ≡ Some (Seals i index)

  -- the number is none of this stream's
  abbrev pub IsOther : ReqNo → Type 0
  IsOther q = purpose_of sent q ≡ None

  -- what a server says of an extent, which is made: it asks so where the extent is of this stream and not sealed, and of one of
  -- the extent's indexes where its number is one of this stream's
  pub record OfExtent (e : ℕ) (q : ReqNo) (Asks : ℕ → Type 0) : Type 0 where
    pub made : w.catalog.extent e ≡ None → ⊥
    pub unsealed : (index : ℕ) → IsUnsealedAt w name index e → Asks index
    pub known : (purpose : Purpose) → purpose_of sent q ≡ Some purpose → (index : ℕ) × IsAt w name index e × Asks index

  -- what a server says of a range or a stream: it asks so where this is the one; where not, its number is none of this stream's
  pub record OfStream (Here : Type 0) (q : ReqNo) (Asks : Type 0) : Type 0 where
    pub here : Here → Asks
    pub elsewhere : (Here → ⊥) → IsOther q

  abbrev pub AppendAsked : AppendBody → Type 0
  AppendAsked (Append e g blocks q) = OfExtent e q (λ index. AsksToAppend g e index blocks q)
  AppendAsked body = Unit {0}

  abbrev pub CheckAsked : CheckBody → Type 0
  CheckAsked (Check e g q) = OfExtent e q (λ index. AsksToCheck g e index q)
  CheckAsked body = Unit {0}

  abbrev pub ReadAsked : ReadBody → Type 0
  ReadAsked (ReadGroups e upto sealed q) = OfExtent e q (λ index. AsksToRead e index upto q)
  ReadAsked body = Unit {0}

  abbrev pub SealAsked : SealBody → Type 0
  SealAsked (SealExtent e q) = OfExtent e q (λ index. AsksToSeal e index q)
  SealAsked body = Unit {0}

  abbrev pub StreamAsked : StreamBody → Type 0
  StreamAsked (OpenStreams range g q) = OfStream (range ≡ name.range) q (AsksToOpen g q)
  StreamAsked (Confirm range g q) = OfStream (range ≡ name.range) q (AsksToConfirm g q)
  StreamAsked (Extend stream g last pick q) = OfStream (stream ≡ name) q (AsksToExtend g last q)
  -- none of these is this stream, unless it is there already
  StreamAsked (MultiModify list q) = (m : Modify) → Contains list m → m.stream ≡ name → IsThere w name
  StreamAsked body = Unit {0}

  -- what a server asks, under a number, is what this number is for
  abbrev pub IsAsked : Body → Type 0
  IsAsked (bodies.Append body) = AppendAsked body
  IsAsked (bodies.Check body) = CheckAsked body
  IsAsked (bodies.Read body) = ReadAsked body
  IsAsked (bodies.Seal body) = SealAsked body
  IsAsked (bodies.Stream body) = StreamAsked body
  IsAsked body = Unit {0}

  -- all that servers have asked
  abbrev pub AllAsked : Type 0
  AllAsked = (server : ℕ) (to : ActorId) (body : Body) → Contains w.post (packet (Server server) to body) → IsAsked body

  -- ---- what answers mean

  -- the extents that were told: those of the list from its base on, and the length of each that is sealed
  pub record Tells (list : StreamList) : Type 0 where
    -- what has left the list is sealed; nothing leaves that of the metadata, nor does the last extent of any
    pub left : (index : ℕ) → index < list.base → (y : machine.SealedExtent Group) × (machine.shut_at index s.core.shut ≡ Some y)
    pub whole : name.kind ≡ kinds.Metadata → list.base ≡ 0
    pub ends : length list.extents ≡ 0 → list.base ≡ 0
    pub known : known_of list ≤ length (extents_in w name)
    pub are : (k : ℕ) (x : StreamExtent) → slice_get list.extents k ≡ Some x → IsAt w name (list.base + k) x.extent
    pub sealed : (k : ℕ) (x : StreamExtent) (l : ℕ) → slice_get list.extents k ≡ Some x → x.length ≡ Some l →
        (y : machine.SealedExtent Group) × (machine.shut_at (list.base + k) s.core.shut ≡ Some y) × (y.end ≡ machine.base (list.base + k) + l)
    pub unsealed : (k : ℕ) (x : StreamExtent) → slice_get list.extents k ≡ Some x → x.length ≡ None → suc k ≡ length list.extents

  abbrev pub list_of : StreamKind → StreamLists → StreamList
  list_of kinds.Metadata lists = lists.metadata
  list_of kinds.Log lists = lists.log
  list_of kinds.RowData lists = lists.row_data
  list_of kinds.BlobData lists = lists.blob_data

  -- the copies of an extent that was read up to a length: as it is sealed, or as it was checked
  pub record ReadsRightly (index upto : ℕ) (groups : List Group) : Type 0 where
    pub whole : (y : machine.SealedExtent Group) → machine.shut_at index s.core.shut ≡ Some y → y.end ≡ machine.base index + upto →
        groups ≡ map (λ (c : Copy Group). c.group) y.copies
    pub checked : (i : ℕ) (stood : List (Copy Group)) → machine.In (machine.Checked i index stood (machine.base index + upto)) s.facts →
        groups ≡ map (λ (c : Copy Group). c.group) stood

  -- what an answer says, by what its request is for
  abbrev pub AppendMeans : Option Purpose → AppendBody → Type 0
  AppendMeans (Some (Appends i index append group)) (Appended q e offset) =
      IsAt w name index e
      × machine.In (machine.Appended i append (machine.base index + offset) (machine.base index + offset + size group)) s.facts
  AppendMeans purpose body = Unit {0}

  abbrev pub CheckMeans : Option Purpose → CheckBody → Type 0
  CheckMeans (Some (Checks i index)) (CheckedAt q (Some found)) =
      (stood : List (Copy Group)) × machine.In (machine.Checked i index stood (machine.base index + found)) s.facts
  CheckMeans purpose body = Unit {0}

  abbrev pub SealMeans : Option Purpose → SealBody → Type 0
  SealMeans (Some (Seals i index)) (SealedIs q e l) =
      IsAt w name index e × (y : machine.SealedExtent Group) × (machine.shut_at index s.core.shut ≡ Some y) × (y.end ≡ machine.base index + l)
  SealMeans purpose body = Unit {0}

  abbrev pub ReadMeans : Option Purpose → ReadBody → Type 0
  ReadMeans (Some (Reads i index upto)) (Groups q e groups) = ReadsRightly index upto groups
  ReadMeans purpose body = Unit {0}

  abbrev pub StreamMeans : Option Purpose → StreamBody → Type 0
  StreamMeans (Some (Opens i)) (Opened q lists) =
      machine.In (machine.Opened i (known_of (list_of name.kind lists))) s.facts × Tells (list_of name.kind lists)
  StreamMeans (Some (Confirms i read end)) (Confirmed q) = machine.In (machine.Confirmed i read end) s.facts
  StreamMeans (Some (Extends i n)) (Extended q e places) =
      (index : ℕ) × IsAt w name index e × machine.In (machine.Extended i n (suc index)) s.facts
  StreamMeans purpose body = Unit {0}

  abbrev pub purpose_if : Option ReqNo → Option Purpose
  purpose_if None = None
  purpose_if (Some q) = purpose_of sent q

  abbrev pub MeansBy : Option Purpose → Body → Type 0
  MeansBy purpose (bodies.Append body) = AppendMeans purpose body
  MeansBy purpose (bodies.Check body) = CheckMeans purpose body
  MeansBy purpose (bodies.Seal body) = SealMeans purpose body
  MeansBy purpose (bodies.Read body) = ReadMeans purpose body
  MeansBy purpose (bodies.Stream body) = StreamMeans purpose body
  MeansBy purpose body = Unit {0}

  -- what an answer means, by what the request of its number is for
  abbrev pub Means : Body → Type 0
  Means body = MeansBy (purpose_if (answered_number body)) body

  -- all that servers were answered, by those who give such answers
  abbrev pub AllMean : Type 0
  AllMean = (from : ActorId) (server : ℕ) (body : Body) → Contains w.post (packet from (Server server) body) → is_answerer from body ≡ true → Means body
