-- What was asked and answered stays so when more is known.
use Rattle.std.proofs.Common.{◌≡◌, ℕ, ◌+◌, zero, suc, ◌-◌, ◌≤◌, Bool, true, false, List, ◌++◌, length, Option, Some, None, slice_get, Contains, refl, sym, ap, ◌∙◌, subst, arith, length-append, ◌==◌}
use Rattle.std.proofs.lemmas.Bool.Decides.{nat_tests}
use Rattle.wire.specs.declared.actor.ActorId.{ActorId}
use Rattle.wire.specs.declared.actor.ActorId.TheVariants.{Node, Manager, Map, Server, User}
use Rattle.wire.specs.declared.actor.ReqNo.{ReqNo}
use Rattle.wire.specs.declared.body.AppendBody.{AppendBody}
use Rattle.wire.specs.declared.body.AppendBody.TheVariants.{Append, Appended}
use Rattle.wire.specs.declared.body.CheckBody.{CheckBody}
use Rattle.wire.specs.declared.body.CheckBody.TheVariants.{Check, Checked as CheckedAt}
use Rattle.wire.specs.declared.body.ReadBody.TheVariants.{ReadAt, ReadGroups, Groups}
use Rattle.wire.specs.declared.body.SealBody.TheVariants.{SealExtent}
use Rattle.wire.specs.declared.body.StreamBody.{StreamBody}
use Rattle.wire.specs.declared.body.StreamBody.TheVariants.{CreateStream, OpenStreams, Opened, Confirm, Confirmed, Extend, Extended, Trim, MultiModify}
use Rattle.wire.specs.declared.body.Body.{Body}
use Rattle.wire.specs.declared.body.Body.TheVariants as bodies
use Rattle.wire.specs.declared.note.Note.{Note}
use Rattle.wire.specs.declared.packet.Packet.{Packet}
use Rattle.wire.specs.declared.streams.StreamList.{StreamList}
use Rattle.wire.specs.declared.streams.StreamName.{StreamName}
use Rattle.replica.specs.Groups.{Group, text_length}
use Rattle.streams.specs.Streams.{Stream, stream_of}
use Rattle.model_streams.specs.Actors.{generation_of}
use Rattle.model_streams.specs.Manager.{Catalog, sealed_lengths}
use Rattle.model_streams.specs.Node.{Replica}
use Rattle.model_streams.specs.Outcome.{packet}
use Rattle.model_streams.specs.StreamSystem.{StreamSystem, is_server_call}
use Rattle.laws_streams.specs.Listings.{IsRising}
use Rattle.laws_streams.specs.Origins.{Origin, Begins}
use Rattle.laws_streams.proofs.Lists.{begins_refl, begins_trans, get_left}
use Rattle.laws_streams.proofs.Ground.{Ground}
use Rattle.laws_streams.proofs.MoreKnown.{Later}
use Rattle.laws_streams.proofs.RestsOnGround.{Unmoved}
use Rattle.laws_streams.proofs.NodeAnswers as node
use Rattle.laws_streams.proofs.ManagerAnswers as manager
use Rattle.laws_streams.proofs.DecisionAnswers as decision
use Rattle.model_histories.specs.StreamMachine as machine
use Rattle.laws_stream_machine.specs.Refinement.{Purpose, Opens, Checks, Confirms, Appends, Extends, Sent, purpose_of, extents_of, extents_in, IsAt, IsThere, last_known, known_of, AsksToOpen, AsksToConfirm, AsksToExtend, AsksToCheck, AsksToAppend, AsksToRead, AsksToSeal, OfExtent, OfStream, IsAsked, Tells, list_of, AppendMeans, CheckMeans, StreamMeans, purpose_if, stream_meant}
use Rattle.laws_stream_machine.proofs.MachineCore.{get_same}
use Rattle.laws_stream_machine.proofs.StepSequences.{Onward}

-- ---- who asks

abbrev pub is_outside : ActorId → Bool
is_outside (Node n) = false
is_outside Manager = false
is_outside Map = false
is_outside (Server s) = true
is_outside (User u) = true

-- what servers may ask comes from servers and users alone
abbrev pub Called : Packet → Type 0
Called p = is_server_call p.body ≡ true → is_outside p.from ≡ true

pub node_calls_not : (s : Option Replica) (k : ℕ) (taken : Packet) (notes : List Note) (to : ActorId) (body : Body) → node.BodyTells s k taken notes to body →
    is_server_call body ≡ true → ⊥
node_calls_not s k taken notes to (bodies.Append (Append e g b q)) tells t = tells
node_calls_not s k taken notes to (bodies.Check (Check e g q)) tells t = tells
node_calls_not s k taken notes to (bodies.Seal (SealExtent e q)) tells t = tells
node_calls_not s k taken notes to (bodies.Read (ReadAt e o l q)) tells t = tells
node_calls_not s k taken notes to (bodies.Read (ReadGroups e upto sealed q)) tells t = tells
node_calls_not s k taken notes to (bodies.Stream b) tells t = tells
node_calls_not s k taken notes to body tells t = cc

pub manager_calls_not : (b : Catalog) (taken : Packet) (to : ActorId) (body : Body) → manager.BodyTells b taken to body → is_server_call body ≡ true → ⊥
manager_calls_not b taken to (bodies.Append (Append e g blocks q)) tells t = tells
manager_calls_not b taken to (bodies.Check body) tells t = tells
manager_calls_not b taken to (bodies.Seal (SealExtent e q)) tells t = tells
manager_calls_not b taken to (bodies.Read (ReadAt e o l q)) tells t = tells
manager_calls_not b taken to (bodies.Read (ReadGroups e upto sealed q)) tells t = tells
manager_calls_not b taken to (bodies.Stream (CreateStream s f q)) tells t = tells
manager_calls_not b taken to (bodies.Stream (OpenStreams r g q)) tells t = tells
manager_calls_not b taken to (bodies.Stream (Confirm r g q)) tells t = tells
manager_calls_not b taken to (bodies.Stream (Extend s g l p q)) tells t = tells
manager_calls_not b taken to (bodies.Stream (Trim r g n k q)) tells t = tells
manager_calls_not b taken to (bodies.Stream (MultiModify list q)) tells t = tells
manager_calls_not b taken to body tells t = cc

pub decision_calls_not : (b : Catalog) (e : ℕ) (after : Catalog) (to : ActorId) (body : Body) → decision.BodyTells b e after to body → is_server_call body ≡ true → ⊥
decision_calls_not b e after to (bodies.Append body) tells t = tells
decision_calls_not b e after to (bodies.Check body) tells t = tells
decision_calls_not b e after to (bodies.Read body) tells t = tells
decision_calls_not b e after to (bodies.Stream body) tells t = tells
decision_calls_not b e after to (bodies.Map body) tells t = tells
decision_calls_not b e after to (bodies.Table body) tells t = tells
decision_calls_not b e after to (bodies.Seal (SealExtent k q)) tells t = tells
decision_calls_not b e after to (bodies.Seal body) tells t = cc

-- ---- lists

last_stays : (xs ys : List ℕ) (n : ℕ) → n ≤ length xs → last_known (xs ++ ys) n ≡ last_known xs n
last_stays xs ys zero l = refl
last_stays xs ys (suc n) l =
    let e : suc n - 1 ≡ n = omega arith in
    let z : (suc n == 0) ≡ false = grind (arith, nat_tests) in
    rw (z, e) (get_same xs ys n (omega (arith, l)))

-- ---- groups that were read

-- they begin the script, and end where it was asked
pub record Reading (post : List Packet) (g : Ground) (from : ActorId) (server : ℕ) (q : ReqNo) (e : ℕ) (groups : List Group) : Type 0 where
  pub upto : ℕ
  pub sealed : Bool
  pub asked : Contains post (packet (Server server) from (bodies.Read (ReadGroups e upto sealed q)))
  pub begins : Begins groups (g.script e)
  pub ends : text_length groups ≡ upto

abbrev pub AllRead : List Packet → Ground → Type 0
AllRead post g = (from : ActorId) (server : ℕ) (q : ReqNo) (e : ℕ) (groups : List Group) →
    Contains post (packet from (Server server) (bodies.Read (Groups q e groups))) → Reading post g from server q e groups

pub reading_on : (old post : List Packet) (g h : Ground) → ((p : Packet) → Contains old p → Contains post p) → Later g h →
    (from : ActorId) (server : ℕ) (q : ReqNo) (e : ℕ) (groups : List Group) → Reading old g from server q e groups → Reading post h from server q e groups
reading_on old post g h more later from server q e groups r = record {
  upto = r.upto;
  sealed = r.sealed;
  asked = more _ r.asked;
  begins = begins_trans r.begins (later.script e);
  ends = r.ends;
}

-- ---- groups that were appended

-- the append of a group was sent
pub record Appending (post : List Packet) (e : ℕ) (from : Origin) : Type 0 where
  pub packet : Packet
  pub generation : ℕ
  pub group : Group
  pub sent : Contains post packet
  pub body : packet.body ≡ bodies.Append (Append e generation group from.request)
  pub counted : from.generation ≡ generation_of packet.from generation

abbrev pub AllAppended : List Packet → Ground → Type 0
AllAppended post g = (e k : ℕ) (from : Origin) → slice_get (g.origin e) k ≡ Some from → Appending post e from

pub appended_more : (old post : List Packet) (g : Ground) → ((p : Packet) → Contains old p → Contains post p) → AllAppended old g → AllAppended post g
appended_more old post g more a e k from is =
    let y = a e k from is in
    record { packet = y.packet; generation = y.generation; group = y.group; sent = more y.packet y.sent; body = y.body; counted = y.counted }

pub unmoved_appended : (post : List Packet) (g h : Ground) → ((e : ℕ) → Unmoved g h e) → AllAppended post g → AllAppended post h
unmoved_appended post g h same a e k from is = a e k from (subst (λ z. slice_get z k ≡ Some from) (same e).1 is)

-- ---- from one stream system and state to a later one

-- where the stream is there its list rises
abbrev pub Rises : StreamName → StreamSystem → Type 0
Rises name w = (x : Stream) → stream_of w.catalog.stream name ≡ Some x → IsRising x

module _ (name : StreamName) where
  pub record Ahead (w : StreamSystem) (s : machine.MachineState Group) (v : StreamSystem) (t : machine.MachineState Group) : Type 0 where
    pub begins : Begins (extents_in w name) (extents_in v name)
    -- what is new in the list was not made before
    pub back : (index e : ℕ) → (w.catalog.extent e ≡ None → ⊥) → IsAt v name index e → IsAt w name index e
    pub made : (e : ℕ) → (w.catalog.extent e ≡ None → ⊥) → v.catalog.extent e ≡ None → ⊥
    -- what is not sealed was not sealed before
    pub unsealed : (e : ℕ) → (w.catalog.extent e ≡ None → ⊥) → sealed_lengths v.catalog e ≡ None → sealed_lengths w.catalog e ≡ None
    -- it stays there, and its list goes on rising
    pub there : IsThere w name → IsThere v name
    pub rising : Rises name w → Rises name v
    pub onward : Onward s t

  -- the catalog is the same
  pub ahead_same : (w : StreamSystem) (s : machine.MachineState Group) (v : StreamSystem) (t : machine.MachineState Group) → v.catalog ≡ w.catalog → Onward s t → Ahead w s v t
  ahead_same w s v t same onward = record {
    begins = subst (λ (b : Catalog). Begins (extents_in w name) (extents_of (stream_of b.stream name))) (sym same) (begins_refl (extents_in w name));
    back = λ index e made at. subst (λ (b : Catalog). slice_get (extents_of (stream_of b.stream name)) index ≡ Some e) same at;
    made = λ e made none. made (ap (λ (b : Catalog). b.extent e) (sym same) ∙ none);
    unsealed = λ e made none. ap (λ (b : Catalog). sealed_lengths b e) (sym same) ∙ none;
    there = λ x. (x.0, ap (λ (b : Catalog). stream_of b.stream name) same ∙ x.1);
    rising = λ old x is. old x (ap (λ (b : Catalog). stream_of b.stream name) (sym same) ∙ is);
    onward = onward;
  }

  module _ (generation : ℕ → ℕ) (w : StreamSystem) (s : machine.MachineState Group) (v : StreamSystem) (t : machine.MachineState Group) (a : Ahead w s v t) (sent : List Sent) where
    at_on : (index e : ℕ) → IsAt w name index e → IsAt v name index e
    at_on index e at = subst (λ xs. slice_get xs index ≡ Some e) (sym a.begins.is) (get_left (extents_in w name) a.begins.rest index e at)

    count_on : (n : ℕ) → n ≤ length (extents_in w name) → n ≤ length (extents_in v name)
    count_on n l = omega (arith, l, ap (λ (xs : List ℕ). length xs) a.begins.is, length-append (extents_in w name) a.begins.rest)

    -- ---- requests

    of_extent : (e : ℕ) (q : ReqNo) (P Q : ℕ → Type 0) → ((index : ℕ) → P index → Q index) → OfExtent generation name w s sent e q P → OfExtent generation name v t sent e q Q
    of_extent e q P Q f x = record {
      made = a.made e x.made;
      unsealed = λ index at. f index (x.unsealed index (a.back index e x.made at.0, a.unsealed e x.made at.1));
      known = λ p for. let (index, at, asks) = x.known p for in (index, at_on index e at, f index asks);
    }

    of_stream : (Here : Type 0) (q : ReqNo) (P Q : Type 0) → (P → Q) → OfStream generation name w s sent Here q P → OfStream generation name v t sent Here q Q
    of_stream Here q P Q f x = record { here = λ h. f (x.here h); elsewhere = x.elsewhere }

    pub asked_on : (body : Body) → IsAsked generation name w s sent body → IsAsked generation name v t sent body
    asked_on (bodies.Append (Append e g blocks q)) x =
        of_extent e q (λ index. AsksToAppend generation name w s sent g e index blocks q) (λ index. AsksToAppend generation name v t sent g e index blocks q)
        (λ index y. record { i = y.i; append = y.append; for = y.for; under = y.under; fact = a.onward.facts _ y.fact }) x
    asked_on (bodies.Check (Check e g q)) x =
        of_extent e q (λ index. AsksToCheck generation name w s sent g e index q) (λ index. AsksToCheck generation name v t sent g e index q)
        (λ index y. record { i = y.i; for = y.for; under = y.under; fact = a.onward.facts _ y.fact }) x
    asked_on (bodies.Read (ReadGroups e upto sealed q)) x =
        of_extent e q (λ index. AsksToRead generation name w s sent e index upto q) (λ index. AsksToRead generation name v t sent e index upto q)
        (λ index y. record { i = y.i; for = y.for }) x
    asked_on (bodies.Seal (SealExtent e q)) x =
        of_extent e q (λ index. AsksToSeal generation name w s sent e index q) (λ index. AsksToSeal generation name v t sent e index q)
        (λ index y. record { i = y.i; for = y.for }) x
    asked_on (bodies.Stream (OpenStreams range g q)) x =
        of_stream (range ≡ name.range) q (AsksToOpen generation name w s sent g q) (AsksToOpen generation name v t sent g q)
        (λ y. record { i = y.i; for = y.for; under = y.under; fact = a.onward.facts _ y.fact }) x
    asked_on (bodies.Stream (Confirm range g q)) x =
        of_stream (range ≡ name.range) q (AsksToConfirm generation name w s sent g q) (AsksToConfirm generation name v t sent g q)
        (λ y. record { i = y.i; read = y.read; end = y.end; for = y.for; under = y.under; fact = a.onward.facts _ y.fact }) x
    asked_on (bodies.Stream (Extend stream g last pick q)) x =
        of_stream (stream ≡ name) q (AsksToExtend generation name w s sent g last q) (AsksToExtend generation name v t sent g last q)
        (λ y. record {
          i = y.i;
          n = y.n;
          for = y.for;
          under = y.under;
          known = count_on y.n y.known;
          last_is = y.last_is ∙ sym (last_stays (extents_in w name) a.begins.rest y.n y.known) ∙ ap (λ xs. last_known xs y.n) (sym a.begins.is);
          fact = a.onward.facts _ y.fact;
        }) x
    asked_on (bodies.Stream (MultiModify list q)) x = λ m among same. a.there (x m among same)
    asked_on body x = tt

    -- ---- answers

    pub append_on : (purpose : Option Purpose) (body : AppendBody) → AppendMeans generation name w s sent purpose body → AppendMeans generation name v t sent purpose body
    append_on (Some (Appends i index append group)) (Appended q e o) m = (at_on index e m.0, a.onward.facts _ m.1)
    append_on purpose body m = tt

    pub check_on : (purpose : Option Purpose) (body : CheckBody) → CheckMeans generation name w s sent purpose body → CheckMeans generation name v t sent purpose body
    check_on (Some (Checks i index)) (CheckedAt q (Some found)) m = (m.0, a.onward.facts _ m.1)
    check_on purpose body m = tt

    pub tells_on : (list : StreamList) → Tells generation name w s sent list → Tells generation name v t sent list
    tells_on list x = record {
      left = λ index below. let y = x.left index below in (y.0, a.onward.shut index y.0 y.1);
      whole = x.whole;
      ends = x.ends;
      known = count_on (known_of list) x.known;
      are = λ k y is. at_on (list.base + k) y.extent (x.are k y is);
      sealed = λ k y l is length_is. let m = x.sealed k y l is length_is in (m.0, a.onward.shut (list.base + k) m.0 m.1, m.2);
      unsealed = x.unsealed;
    }

    pub stream_on : (purpose : Option Purpose) (body : StreamBody) → StreamMeans generation name w s sent purpose body → StreamMeans generation name v t sent purpose body
    stream_on (Some (Opens i)) (Opened q lists) m = (a.onward.facts _ m.0, tells_on (list_of generation name w s sent name.kind lists) m.1)
    stream_on (Some (Confirms i read end)) (Confirmed q) m = a.onward.facts _ m
    stream_on (Some (Extends i n)) (Extended q e places) m = (m.0, at_on m.0 e m.1, a.onward.facts _ m.2)
    stream_on purpose body m = tt

  -- ---- what was answered by nodes, and by the manager about streams

  pub record Meant (generation : ℕ → ℕ) (w : StreamSystem) (s : machine.MachineState Group) (sent : List Sent) (p : Packet) : Type 0 where
    pub appended : (q : ReqNo) (e o : ℕ) → p.body ≡ bodies.Append (Appended q e o) → AppendMeans generation name w s sent (purpose_of sent q) (Appended q e o)
    pub checked : (q : ReqNo) (l : ℕ) → p.body ≡ bodies.Check (CheckedAt q (Some l)) → CheckMeans generation name w s sent (purpose_of sent q) (CheckedAt q (Some l))
    pub streamed : (body : StreamBody) → p.body ≡ bodies.Stream body → StreamMeans generation name w s sent (purpose_if generation name w s sent (stream_meant body)) body

  -- of each packet to a server
  abbrev pub IfToServer : Packet → Type 0 → Type 0
  IfToServer p M = (server : ℕ) → p.to ≡ Server server → M

  pub meant_on : (generation : ℕ → ℕ) (w : StreamSystem) (s : machine.MachineState Group) (v : StreamSystem) (t : machine.MachineState Group) → Ahead w s v t → (sent : List Sent) (p : Packet) →
      Meant generation w s sent p → Meant generation v t sent p
  meant_on generation w s v t a sent p m = record {
    appended = λ q e o is. append_on generation w s v t a sent (purpose_of sent q) (Appended q e o) (m.appended q e o is);
    checked = λ q l is. check_on generation w s v t a sent (purpose_of sent q) (CheckedAt q (Some l)) (m.checked q l is);
    streamed = λ body is. stream_on generation w s v t a sent (purpose_if generation name w s sent (stream_meant body)) body (m.streamed body is);
  }
