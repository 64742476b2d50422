-- What the manager's lists of extents are. While an extent is open it stands in one list, once, and each but the last of a list is
-- sealed, except in blob streams, to which servers may add what they like, and what leaves a log comes behind that. A stream that is
-- built has the lists of others of its kind, so that an extent that is sealed may stand in several lists, and in one more than once.
use Rattle.std.specs.Prelude.{◌≡◌, ◌≢◌, ◌⊎◌, ℕ, suc, ◌<◌, Bool, true, List, [], ◌∷◌, ◌++◌, Option, Some, None, slice_get, Contains}
use Rattle.wire.specs.declared.actor.ReqNo.{ReqNo}
use Rattle.wire.specs.declared.body.StreamBody.TheVariants.{MultiModify}
use Rattle.wire.specs.declared.body.Body.TheVariants as bodies
use Rattle.wire.specs.declared.packet.Packet.{Packet}
use Rattle.wire.specs.declared.streams.Modify.{Modify}
use Rattle.wire.specs.declared.streams.Source.{Source}
use Rattle.wire.specs.declared.streams.StreamKind.TheVariants.{Log, BlobData}
use Rattle.wire.specs.declared.streams.StreamName.{StreamName}
use Rattle.streams.specs.Streams.{Stream, stream_of, whole}
use Rattle.model_streams.specs.declared.extent.Extent.{Extent}
use Rattle.model_streams.specs.Manager.{Catalog}
use Rattle.model_streams.specs.StreamSystem.{StreamSystem, Move, run_moves}
use Rattle.laws_streams.specs.Origins.{Begins}
use Rattle.laws_streams.specs.Answers.{SealedIn}

-- the list of a stream: from index 0 on, with those that have left it, all in the catalog
pub record Listed (b : Catalog) (s : StreamName) (x : Stream) : Type 0 where
  -- only logs lose extents, and never the last one
  pub gone : s.kind ≢ Log → x.gone ≡ []
  pub ends : x.extents ≡ [] → x.gone ≡ []
  pub there : (i e : ℕ) → slice_get (whole x) i ≡ Some e → (y : Extent) × (b.extent e ≡ Some y)
  -- each but the last one is sealed
  pub closed : s.kind ≢ BlobData → (i e f : ℕ) → slice_get (whole x) i ≡ Some e → slice_get (whole x) (suc i) ≡ Some f → (length : ℕ) × SealedIn b e length
  -- an extent that is open stands in no other list, and once in its own; or it stands in blob streams alone
  pub alone : (t : StreamName) (z : Stream) (i j e : ℕ) (y : Extent) → stream_of b.stream t ≡ Some z → b.extent e ≡ Some y → y.sealed ≡ None →
      slice_get (whole x) i ≡ Some e → slice_get (whole z) j ≡ Some e → ((s ≡ t) × (i ≡ j)) ⊎ ((s.kind ≡ BlobData) × (t.kind ≡ BlobData))

-- the extents of the list stand in the order in which they were made
abbrev pub IsRising : Stream → Type 0
IsRising x = (i j e f : ℕ) → i < j → slice_get (whole x) i ≡ Some e → slice_get (whole x) j ≡ Some f → e < f

-- Whatever was asked, none of these streams is built from more than one stream, and that is one of them too.
abbrev pub AreUnjoined : List Packet → (StreamName → Bool) → Type 0
AreUnjoined post among = (p : Packet) (list : List Modify) (request : ReqNo) (m : Modify) → Contains post p → p.body ≡ bodies.Stream (MultiModify list request) →
    Contains list m → among m.stream ≡ true → (source : Source) × (m.sources ≡ source ∷ []) × (among source.stream ≡ true)

-- the stream is there, its list begins with that of before, and what has left it stays so
pub record Longer (x : Stream) (found : Option Stream) : Type 0 where
  pub now : Stream
  pub is : found ≡ Some now
  pub begins : Begins (whole x) (whole now)
  pub gone : Begins x.gone now.gone

-- the lists of a run, and how each goes on later
pub record ListsGrow (before after : List Move) (w : StreamSystem) : Type 0 where
  pub listed : (s : StreamName) (x : Stream) → stream_of (run_moves before w).catalog.stream s ≡ Some x → Listed (run_moves before w).catalog s x
  pub rising : (among : StreamName → Bool) → AreUnjoined (run_moves before w).post among → (s : StreamName) (x : Stream) → stream_of (run_moves before w).catalog.stream s ≡ Some x →
      among s ≡ true → s.kind ≢ BlobData → IsRising x
  pub longer : (s : StreamName) (x : Stream) → stream_of (run_moves before w).catalog.stream s ≡ Some x →
      Longer x (stream_of (run_moves (before ++ after) w).catalog.stream s)
