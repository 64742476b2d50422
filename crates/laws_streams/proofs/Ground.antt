-- What is known for good of each extent, and how packets, observations and replicas rest on it.
use Rattle.std.proofs.Common.{◌≡◌, ℕ, ◌+◌, ◌<◌, ◌≤◌, Bool, true, false, List, [], ◌∷◌, ◌++◌, length, take, Option, Some, None, slice_get, Contains}
use Rattle.block_types.specs.declared.record.Nodes.{Nodes}
use Rattle.wire.specs.declared.actor.ActorId.{ActorId}
use Rattle.wire.specs.declared.actor.ActorId.TheVariants.{Node}
use Rattle.wire.specs.declared.actor.ReqNo.{ReqNo}
use Rattle.wire.specs.declared.body.AppendBody.{AppendBody}
use Rattle.wire.specs.declared.body.AppendBody.TheVariants.{Append, Put, Have}
use Rattle.wire.specs.declared.body.SealBody.{SealBody}
use Rattle.wire.specs.declared.body.SealBody.TheVariants as seals
use Rattle.wire.specs.declared.body.CheckBody.{CheckBody}
use Rattle.wire.specs.declared.body.CheckBody.TheVariants.{Check, Probed, Checked}
use Rattle.wire.specs.declared.body.Body.{Body}
use Rattle.wire.specs.declared.body.Body.TheVariants as bodies
use Rattle.wire.specs.declared.note.Note.{Note}
use Rattle.wire.specs.declared.note.Note.TheVariants.{Acked, SealedAt, Content, Seen}
use Rattle.wire.specs.declared.packet.Packet.{Packet}
use Rattle.replica.specs.declared.phase.Phase.{Phase}
use Rattle.replica.specs.declared.phase.Phase.TheVariants as phases
use Rattle.replica.specs.Groups.{Group, text, size, text_length}
use Rattle.replica.specs.Replay.{is_place}
use Rattle.model_streams.specs.declared.checking.Checking.{Checking}
use Rattle.model_streams.specs.declared.waiting_append.WaitingAppend.{WaitingAppend}
use Rattle.model_streams.specs.Actors.{is_node, generation_of}
use Rattle.model_streams.specs.Honest.{Stands}
use Rattle.model_streams.specs.Node.{Replica}
use Rattle.model_streams.specs.Outcome.{packet}
use Rattle.laws_streams.specs.Origins.{Begins, Shows, Origin}
use Rattle.laws_streams.proofs.Lists.{NoneEmpty}
use Rattle.laws_streams.proofs.Choices.{Each}

-- What never turns false again, by extent, and by node and extent. A node's last length is the one that it has while it
-- is not sealed.
pub record Ground : Type 0 where
  pub script : ℕ → List Group  -- all that the primary ever appended, also where it is cut
  pub acked : ℕ → ℕ  -- the end of the last acknowledged append
  pub places : ℕ → Option Nodes  -- where the extent is made
  pub born : ℕ → ℕ  -- the fence that it is made with
  pub sealed : ℕ → Option ℕ  -- the length at which it is sealed
  pub last : ℕ → ℕ → ℕ
  pub closed : ℕ → ℕ → Bool  -- the node takes no more appends
  pub origin : ℕ → List Origin  -- of each group of the script
  pub fence : ℕ → ℕ  -- the primary takes no older generation from now on
  pub asked : List Packet  -- the appends and the checks that were begun

-- a beginning of the script has this length
pub record EndsAt (script : List Group) (l : ℕ) : Type 0 where
  pub front : List Group
  pub begins : Begins front script
  pub ends : text_length front ≡ l

-- no script is longer: an append is taken below a target of at most 16,777,216 bytes, and has at most 64 blocks of 65,536
abbrev pub longest : ℕ
longest = 20971519

-- the facts of each extent: a sealed length is that of a place that is closed, and so no shorter than what is acknowledged,
-- and each place has a beginning of the script
pub record Sound (g : Ground) : Type 0 where
  pub none_empty : (e : ℕ) → NoneEmpty (g.script e)
  pub short : (e : ℕ) → text_length (g.script e) ≤ longest
  pub whole : (n e : ℕ) → EndsAt (g.script e) (g.last n e)
  pub aged : (e : ℕ) → length (g.origin e) ≡ length (g.script e)
  pub born : (e : ℕ) → Each (λ x. g.born e ≤ x.generation) (g.origin e)
  pub unmade : (e : ℕ) → g.places e ≡ None → (g.script e ≡ []) × (g.acked e ≡ 0) × (g.fence e ≡ 0)
  pub all_had : (e : ℕ) (at : Nodes) → g.places e ≡ Some at →
      (g.acked e ≤ g.last at.primary e) × (g.acked e ≤ g.last at.second e) × (g.acked e ≤ g.last at.third e)
  pub noted : (e l : ℕ) → g.sealed e ≡ Some l →
      (at : Nodes) × (n : ℕ) × (g.places e ≡ Some at) × (is_place n at ≡ true) × (g.closed n e ≡ true) × (g.last n e ≡ l)

-- what a node sends to fill another: a list of groups after some that begin the script
pub record FineTail (g : Ground) (e from l : ℕ) (groups : List Group) : Type 0 where
  pub sealed : g.sealed e ≡ Some l
  pub before : List Group
  pub begins : Begins (before ++ groups) (g.script e)
  pub start : text_length before ≡ from
  pub end : text_length (before ++ groups) ≡ l

-- a check under generation k found all three places at length l: what stands after is no older than k
pub record FineCover (g : Ground) (e k l : ℕ) : Type 0 where
  pub front : List Group
  pub back : List Group
  pub olds : List Origin
  pub news : List Origin
  pub split : g.script e ≡ front ++ back
  pub origins : g.origin e ≡ olds ++ news
  pub same : length olds ≡ length front
  pub end : text_length front ≡ l
  pub newer : Each (λ x. k ≤ x.generation) news
  pub fenced : k ≤ g.fence e
  pub places : Nodes
  pub made : g.places e ≡ Some places
  pub had : (l ≤ g.last places.primary e) × (l ≤ g.last places.second e) × (l ≤ g.last places.third e)

-- a check's answer to the one who asked for it, from the node that was asked
pub record FineChecked (g : Ground) (from to : ActorId) (q : ReqNo) (l : ℕ) : Type 0 where
  pub node : ℕ
  pub answers : from ≡ Node node
  pub extent : ℕ
  pub generation : ℕ
  pub asked : Contains g.asked (packet to from (bodies.Check (Check extent generation q)))
  pub covers : FineCover g extent (generation_of to generation) l

-- ---- what packets, observations and replicas rest on

abbrev pub FineAppend : Ground → ActorId → AppendBody → Type 0
FineAppend g from (Put e offset group) = Stands group offset (g.script e) × (0 < size group)
FineAppend g from (Have e l) = (n : ℕ) → is_node n from ≡ true → l ≤ g.last n e
FineAppend g from _ = Unit {0}

abbrev pub FineSeal : Ground → ActorId → SealBody → Type 0
FineSeal g from (seals.Make e fence target places) = (g.places e ≡ Some places) × (g.born e ≡ fence)
FineSeal g from (seals.Frozen e l) = (n : ℕ) → is_node n from ≡ true → (g.closed n e ≡ true) × (g.last n e ≡ l)
FineSeal g from (seals.Seal e l) = g.sealed e ≡ Some l
FineSeal g from (seals.Tail e start l groups) = FineTail g e start l groups
FineSeal g from _ = Unit {0}

abbrev pub FineCheckBody : Ground → ActorId → ActorId → CheckBody → Type 0
FineCheckBody g from to (Probed e k l) = (n : ℕ) → is_node n from ≡ true → l ≤ g.last n e
FineCheckBody g from to (Checked q (Some l)) = FineChecked g from to q l
FineCheckBody g from to _ = Unit {0}

-- what a packet says, from this sender to this addressee
abbrev pub FineBody : Ground → ActorId → ActorId → Body → Type 0
FineBody g from to (bodies.Append body) = FineAppend g from body
FineBody g from to (bodies.Check body) = FineCheckBody g from to body
FineBody g from to (bodies.Seal body) = FineSeal g from body
FineBody g from to _ = Unit {0}

abbrev pub FinePacket : Ground → Packet → Type 0
FinePacket g p = FineBody g p.from p.to p.body

-- what an acknowledgement rests on
pub record FineAck (g : Ground) (e o : ℕ) (group : Group) : Type 0 where
  pub stands : Stands group o (g.script e)
  pub some : 0 < size group
  pub within : o + size group ≤ g.acked e

-- what a sealed content rests on
pub record FineContent (g : Ground) (e : ℕ) (groups : List Group) : Type 0 where
  pub begins : Begins groups (g.script e)
  pub sealed : g.sealed e ≡ Some (text_length groups)

abbrev pub FineNote : Ground → Note → Type 0
FineNote g (Acked e o group) = FineAck g e o group
FineNote g (SealedAt e l) = g.sealed e ≡ Some l
FineNote g (Content e n groups) = FineContent g e groups
FineNote g (Seen e n o bytes) = Shows o bytes (text (g.script e))
FineNote g _ = Unit {0}

-- the waiting appends stand in the script in order, from here on
abbrev pub Chain : List Group → ℕ → List WaitingAppend → Type 0
Chain script from [] = Unit {0}
Chain script from (w ∷ ws) =
    (from ≤ w.offset) × Stands w.group w.offset script × (0 < size w.group) × Chain script (w.offset + size w.group) ws

-- an open replica of the primary is the script
abbrev pub FinePhase : Ground → ℕ → ℕ → Nodes → List Group → Phase → Type 0
FinePhase g n e at groups phases.Open =
    (g.closed n e ≡ false) × (g.last n e ≡ text_length groups) × (n ≡ at.primary → g.script e ≡ groups)
FinePhase g n e at groups phases.Frozen = (g.closed n e ≡ true) × (g.last n e ≡ text_length groups)
FinePhase g n e at groups phases.Sealed = (g.closed n e ≡ true) × (g.sealed e ≡ Some (text_length groups))

-- a length that was told, if one was, is at most this one
abbrev pub AtMost : ℕ → Option ℕ → Type 0
AtMost x None = Unit {0}
AtMost x (Some l) = l ≤ x

-- the check that a primary has under way: it was asked for, it is between what the primary listened to before and its
-- fence, and its places have what they told
pub record FineChecking (g : Ground) (n e : ℕ) (places : Nodes) (fence : ℕ) (c : Checking) : Type 0 where
  pub primary : n ≡ places.primary
  pub fenced : c.generation ≤ fence
  pub above : g.fence e ≤ c.generation
  pub newer : g.born e ≤ c.generation
  pub second : AtMost (g.last places.second e) c.second
  pub third : AtMost (g.last places.third e) c.third
  pub generation : ℕ
  pub counted : c.generation ≡ generation_of c.asker generation
  pub asked : Contains g.asked (packet c.asker (Node n) (bodies.Check (Check e generation c.request)))

abbrev pub FineCheck : Ground → ℕ → ℕ → Nodes → ℕ → Option Checking → Type 0
FineCheck g n e places fence None = Unit {0}
FineCheck g n e places fence (Some c) = FineChecking g n e places fence c

-- an append that waits at a primary: it was asked for, and its group stands in the script where it says, as the one that
-- this request appended
pub record FineWaiting (g : Ground) (n e : ℕ) (w : WaitingAppend) : Type 0 where
  pub generation : ℕ
  pub asked : Contains g.asked (packet w.asker (Node n) (bodies.Append (Append e generation w.group w.request)))
  pub index : ℕ
  pub from : Origin
  pub is : slice_get (g.script e) index ≡ Some w.group
  pub start : text_length (take index (g.script e)) ≡ w.offset
  pub appended : slice_get (g.origin e) index ≡ Some from
  pub counted : from.generation ≡ generation_of w.asker generation
  pub number : from.request ≡ w.request

pub record FineOne (g : Ground) (n e : ℕ) (r : Replica) : Type 0 where
  pub places : g.places e ≡ Some r.content.places
  pub begins : Begins r.content.groups (g.script e)
  pub phase : FinePhase g n e r.content.places r.content.groups r.content.phase
  pub second_has : r.second_has ≤ g.last r.content.places.second e
  pub third_has : r.third_has ≤ g.last r.content.places.third e
  pub waiting : n ≡ r.content.places.primary → Chain (g.script e) (g.acked e) r.waiting
  pub waits : Each (FineWaiting g n e) r.waiting
  pub target : r.content.target ≤ 16777216
  pub fence : n ≡ r.content.places.primary → g.fence e ≤ r.content.fence
  pub born : g.born e ≤ r.content.fence
  pub check : FineCheck g n e r.content.places r.content.fence r.check

pub record FineNone (g : Ground) (n e : ℕ) : Type 0 where
  pub last : g.last n e ≡ 0
  pub closed : g.closed n e ≡ false
  pub script : (at : Nodes) → g.places e ≡ Some at → n ≡ at.primary → (g.script e ≡ []) × (g.fence e ≡ 0)

abbrev pub FineReplica : Ground → ℕ → ℕ → Option Replica → Type 0
FineReplica g n e None = FineNone g n e
FineReplica g n e (Some r) = FineOne g n e r
