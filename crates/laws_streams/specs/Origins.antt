-- Where the groups of an extent come from: each was appended by one delivery of an append. And where its length comes
-- from: it is the least that a place had told when it was decided.
use Rattle.std.specs.Prelude.{◌≡◌, ◌⊎◌, ℕ, ◌+◌, ◌<◌, ◌≤◌, List, ◌++◌, length, get_or, take, Option, Some, None, slice_get, Contains}
use Rattle.wire.specs.declared.actor.ReqNo.{ReqNo}
use Rattle.wire.specs.declared.body.AppendBody.TheVariants.{Append}
use Rattle.wire.specs.declared.body.Body.TheVariants as bodies
use Rattle.wire.specs.declared.note.Note.TheVariants.{Acked, SealedAt, Content, Seen}
use Rattle.wire.specs.declared.packet.Packet.{Packet}
use Rattle.replica.specs.Groups.{Group, text}
use Rattle.model_streams.specs.declared.event.Event.{Event}
use Rattle.model_streams.specs.declared.event.Event.TheVariants.{Deliver, Decide}
use Rattle.model_streams.specs.declared.extent.Extent.{Extent}
use Rattle.model_streams.specs.Actors.{generation_of}
use Rattle.model_streams.specs.Honest.{Stands}
use Rattle.model_streams.specs.StreamSystem.{StreamSystem, run, Move, run_moves}
use Rattle.model_streams.specs.StreamSystem.Move.{Happens, Asks, Says, Observes}

-- for which generation and with which request a group was appended, and by which event of the run, or which move, counted
-- from 0
pub record Origin : Type 0 where
  pub generation : ℕ
  pub request : ReqNo
  pub event : ℕ

-- the second list begins with the first
pub record Begins {A : Type 0} (xs ys : List A) : Type 0 where
  pub rest : List A
  pub is : ys ≡ xs ++ rest

-- the bytes are those of the text from this offset on
pub record Shows (o : ℕ) (bytes whole : List ℕ) : Type 0 where
  pub fits : o + length bytes ≤ length whole
  pub reads : (i : ℕ) → i < length bytes → get_or bytes i 0 ≡ get_or whole (o + i) 0

-- a whole run: its events by number, the stream system before each, and the last stream system
pub record Course : Type 0 where
  pub event : ℕ → Option Event
  pub before : ℕ → StreamSystem
  pub last : StreamSystem

abbrev pub course : List Event → StreamSystem → Course
course events w = record { event = slice_get events; before = λ n. run (take n events) w; last = run events w }

-- what a server asks, tells or shows is no event
abbrev pub event_of : Option Move → Option Event
event_of None = None
event_of (Some (Happens event)) = Some event
event_of (Some (Asks server to body)) = None
event_of (Some (Says from to body)) = None
event_of (Some (Observes note)) = None

abbrev pub course_of_moves : List Move → StreamSystem → Course
course_of_moves moves w =
    record { event = λ n. event_of (slice_get moves n); before = λ n. run_moves (take n moves) w; last = run_moves moves w }

-- the event of this number delivered an append of the group to the extent, which had been sent before
pub record DeliveredAppend (c : Course) (e : ℕ) (group : Group) (origin : Origin) : Type 0 where
  pub number : ℕ
  pub packet : Packet
  pub generation : ℕ
  pub delivered : c.event origin.event ≡ Some (Deliver number)
  pub sent : slice_get (c.before origin.event).post number ≡ Some packet
  pub body : packet.body ≡ bodies.Append (Append e generation group origin.request)
  pub counted : origin.generation ≡ generation_of packet.from generation

-- a place of the extent has told that it is frozen at this length
abbrev pub Tells : Extent → ℕ → Type 0
Tells x length = (x.primary.frozen ≡ Some length) ⊎ ((x.second.frozen ≡ Some length) ⊎ (x.third.frozen ≡ Some length))

-- a place has told this length, and none has told less
pub record LeastTold (x : Extent) (length : ℕ) : Type 0 where
  pub told : Tells x length
  pub least : (other : ℕ) → Tells x other → length ≤ other

-- the event of this number was the decision on the extent, which was unsealed then, and this was the least length that its
-- places had told
pub record DecidedSeal (c : Course) (e length : ℕ) : Type 0 where
  pub number : ℕ
  pub extent : Extent
  pub decided : c.event number ≡ Some (Decide e)
  pub there : (c.before number).catalog.extent e ≡ Some extent
  pub unsealed : extent.sealed ≡ None
  pub least : LeastTold extent length

-- each extent has a script: groups that were appended one after the other, each by a delivery of its own; and all that
-- is acknowledged or shown of the extent stands in its script; and a length at which it is sealed was decided
pub record OriginsOf (c : Course) : Type 0 where
  pub script : ℕ → List Group
  pub origin : ℕ → List Origin
  pub one_each : (e : ℕ) → length (origin e) ≡ length (script e)
  pub came : (e i : ℕ) (group : Group) (o : Origin) →
      slice_get (script e) i ≡ Some group → slice_get (origin e) i ≡ Some o → DeliveredAppend c e group o
  pub in_order : (e i j : ℕ) (o p : Origin) → i < j →
      slice_get (origin e) i ≡ Some o → slice_get (origin e) j ≡ Some p → o.event < p.event
  pub acked : (e o : ℕ) (group : Group) →
      Contains c.last.notes (Acked e o group) → Stands group o (script e)
  pub content : (e n : ℕ) (groups : List Group) →
      Contains c.last.notes (Content e n groups) → Begins groups (script e)
  pub seen : (e n o : ℕ) (bytes : List ℕ) →
      Contains c.last.notes (Seen e n o bytes) → Shows o bytes (text (script e))
  pub sealed : (e length : ℕ) → Contains c.last.notes (SealedAt e length) → DecidedSeal c e length

abbrev pub Origins : List Event → StreamSystem → Type 0
Origins events w = OriginsOf (course events w)

-- the same of moves, each of which has a number
abbrev pub OriginsOfMoves : List Move → StreamSystem → Type 0
OriginsOfMoves moves w = OriginsOf (course_of_moves moves w)
