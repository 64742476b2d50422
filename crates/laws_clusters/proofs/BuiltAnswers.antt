-- Where a server is told that the streams are built that it asked for, they are there.
use Rattle.std.proofs.Common.{◌≡◌, ℕ, Bool, true, false, List, [], ◌∷◌, ◌++◌, Option, Some, None, Result, Ok, Err, Contains, refl, sym, ap, ◌∙◌, subst, inl, inr, arith}
use Rattle.block_types.specs.declared.record.Nodes.{Nodes}
use Rattle.wire.specs.declared.actor.ActorId.{ActorId}
use Rattle.wire.specs.declared.actor.ActorId.TheVariants.{Manager, Server}
use Rattle.wire.specs.declared.actor.ReqNo.{ReqNo}
use Rattle.wire.specs.declared.body.Body.{Body}
use Rattle.wire.specs.declared.body.Body.TheVariants as bodies
use Rattle.wire.specs.declared.body.SealBody.{SealBody}
use Rattle.wire.specs.declared.body.SealBody.TheVariants as seals
use Rattle.wire.specs.declared.body.StreamBody.{StreamBody}
use Rattle.wire.specs.declared.body.StreamBody.TheVariants.{CreateStream, OpenStreams, Confirm, Confirmed, Extend, Trim, MultiModify, Modified}
use Rattle.wire.specs.declared.packet.Packet.{Packet}
use Rattle.wire.specs.declared.refusal.Refusal.{Refusal}
use Rattle.wire.specs.declared.refusal.Refusal.TheVariants.{Stale, BadPick}
use Rattle.wire.specs.declared.streams.Modify.{Modify}
use Rattle.wire.specs.declared.streams.StreamName.{StreamName}
use Rattle.streams.specs.Streams.{Stream, Streams, stream_of, joined, built, modified, extending, trimming}
use Rattle.model_streams.specs.declared.extent.Extent.{Extent}
use Rattle.model_streams.specs.Actors.{is_user, generation_of}
use Rattle.model_streams.specs.Manager.{Catalog, is_there, sealed_lengths, with_report, frozen_to, known_sealed, create_refusal, create_taken, open_refusal, open_taken, confirm_refusal, answer, is_foreign, is_pick, last_told, extend_made, extend_answered, extend_rule, trim_answered, trim_rule, modify_refusal, modify_taken, reminders, told_sealed, seal_asked, seal_extent_rule, noted, frozen_rule, is_sealed_rule, asks_tail, place_of, first_sealed, short_rule, stream_body_rule, seal_body_rule, manager_rule, decide_rule}
use Rattle.model_streams.specs.Outcome.{Outcome, packet, silent, refused, or_refused}
use Rattle.model_streams.specs.StreamSystem.{StreamSystem, start, Move, moved, run_moves}
use Rattle.model_streams.proofs.Tests.{if_elim}
use Rattle.laws_streams.proofs.BuildTests.{BuildsAll, modified_keeps, builds_of}
use Rattle.laws_streams.proofs.Choices.{Each, each-append, each-contains, contains_get}
use Rattle.laws_streams.proofs.DecisionAnswers as decision
use Rattle.laws_streams.proofs.Invariant.{run_moves_push}
use Rattle.laws_streams.proofs.Listings.{lists_grow}
use Rattle.laws_streams.proofs.ManagerAnswers as manager
use Rattle.laws_streams.proofs.NodeAnswers as node
use Rattle.laws_streams.proofs.PacketSources.{IsSpoken, rule_of, NodeSends, ManagerSends, DecisionSends, moved_gains}
use Rattle.laws_streams.proofs.RisingFences.{with_here}
use Rattle.laws_streams.proofs.StreamAnswers.{same_packet}
use Rattle.model_streams.specs.Node.{extent_of}
use Rattle.laws_stream_machine.specs.Refinement.{IsThere}

-- ---- the manager

-- all streams of a list are there
abbrev pub AllThere : Streams → List Modify → Type 0
AllThere streams list = Each (λ (m : Modify). (x : Stream) × (stream_of streams m.stream ≡ Some x)) list

-- those that are built are there
pub built_there : (sealed : ℕ → Option ℕ) (list : List Modify) (streams : Streams) → BuildsAll sealed streams list → AllThere (modified streams list) list
built_there sealed [] streams all = tt
built_there sealed (m ∷ list) streams all = (
  (joined streams m.sources, modified_keeps sealed list (built streams m) all.1 m.stream (joined streams m.sources) (with_here streams m.stream (joined streams m.sources))),
  built_there sealed list (built streams m) all.1,
)

-- the packet asked to build streams, and they are there
pub record FromBuild (b : Catalog) (taken : Packet) (to : ActorId) (q : ReqNo) : Type 0 where
  pub list : List Modify
  pub body : taken.body ≡ bodies.Stream (MultiModify list q)
  pub asker : to ≡ taken.from
  pub there : AllThere b.stream list

abbrev ToldStream : Catalog → Packet → ActorId → StreamBody → Type 0
ToldStream b taken to (Modified q) = FromBuild b taken to q
ToldStream b taken to body = Unit {0}

abbrev Told : Catalog → Packet → ActorId → Body → Type 0
Told b taken to (bodies.Stream body) = ToldStream b taken to body
Told b taken to body = Unit {0}

module _ (b : Catalog) (p : Packet) where
  -- what a rule sends
  abbrev Tells : Outcome Catalog → Type 0
  Tells o = Each (λ (x : Packet). Told o.after p x.to x.body) o.packets

  modify_tells : (list : List Modify) (q : ReqNo) → p.body ≡ bodies.Stream (MultiModify list q) → (x : Option Refusal) → modify_refusal b p list ≡ x → Tells (or_refused b Manager p q x (modify_taken b p list q))
  modify_tells list q is (Some refusal) none = (tt, tt)
  modify_tells list q is None none = (record { list = list; body = is; asker = refl; there = built_there (sealed_lengths b) list b.stream (builds_of b p list none).1 }, tt)

  unless_tells : (q : ReqNo) (x : Option Refusal) (o : Outcome Catalog) → Tells o → Tells (or_refused b Manager p q x o)
  unless_tells q (Some refusal) o t = (tt, tt)
  unless_tells q None o t = t

  last_tells : (e : ℕ) (o : Option Extent) (q : ReqNo) → Tells (last_told b p e o q)
  last_tells e None q = tt
  last_tells e (Some x) q = (tt, tt)

  extend_answered_tells : (s : StreamName) (generation : ℕ) (pick : Nodes) (q : ReqNo) (x : Result (Option ℕ) Refusal) → Tells (extend_answered b p s generation pick q x)
  extend_answered_tells s generation pick q (Err refusal) = (tt, tt)
  extend_answered_tells s generation pick q (Ok None) =
      if_elim Tells (is_pick b.nodes pick) (extend_made b p s generation pick q) (refused b Manager p q BadPick) (λ t. (tt, (tt, (tt, (tt, tt))))) (λ t. (tt, tt))
  extend_answered_tells s generation pick q (Ok (Some e)) = last_tells e (b.extent e) q

  extend_tells : (s : StreamName) (generation : ℕ) (last : Option ℕ) (pick : Nodes) (q : ReqNo) → Tells (extend_rule b p s generation last pick q)
  extend_tells s generation last pick q =
      let x = extending (sealed_lengths b) (stream_of b.stream s) generation last in
      if_elim Tells (is_foreign p.from s.range) (refused b Manager p q Stale) (extend_answered b p s generation pick q x) (λ t. (tt, tt)) (λ t. extend_answered_tells s generation pick q x)

  trim_tells : (range generation before : ℕ) (to_blob : Bool) (q : ReqNo) → Tells (trim_rule b p range generation before to_blob q)
  trim_tells range generation before to_blob q =
      if_elim Tells (is_user p.from) (refused b Manager p q Stale) (trim_answered b p range before to_blob q (trimming b.stream range generation before)) (λ t. (tt, tt)) (λ t. by_answer (trimming b.stream range generation before))
    where
      by_answer : (x : Result Bool Refusal) → Tells (trim_answered b p range before to_blob q x)
      by_answer (Err refusal) = (tt, tt)
      by_answer (Ok false) = (tt, tt)
      by_answer (Ok true) = (tt, tt)

  stream_tells : (body : StreamBody) → p.body ≡ bodies.Stream body → Tells (stream_body_rule b p body)
  stream_tells (CreateStream s fence q) is = unless_tells q (create_refusal b p s) (create_taken b p s (generation_of p.from fence) q) (tt, tt)
  stream_tells (OpenStreams range generation q) is = unless_tells q (open_refusal b p range generation) (open_taken b p range generation q) (tt, tt)
  stream_tells (Confirm range generation q) is = unless_tells q (confirm_refusal b p range generation) (answer b p (Confirmed q)) (tt, tt)
  stream_tells (Extend s generation last pick q) is = extend_tells s (generation_of p.from generation) last pick q
  stream_tells (Trim range generation before to_blob q) is = trim_tells range generation before to_blob q
  stream_tells (MultiModify list q) is = modify_tells list q is (modify_refusal b p list) refl
  stream_tells body is = tt

-- ---- what is told of seals

-- it is of no stream
abbrev IsOfSeal : Packet → Type 0
IsOfSeal x = (body : StreamBody) → x.body ≡ bodies.Stream body → ⊥

abbrev AreOfSeals : Outcome Catalog → Type 0
AreOfSeals o = Each IsOfSeal o.packets

module _ (b : Catalog) (p : Packet) where
  reminders_of : (e : ℕ) (x : Extent) → Each IsOfSeal (reminders b e x)
  reminders_of e x = ((λ body is. cc), ((λ body is. cc), ((λ body is. cc), ((λ body is. cc), ((λ body is. cc), ((λ body is. cc), tt))))))

  seal_asked_of : (e : ℕ) (q : ReqNo) (x : Extent) (o : Option ℕ) → AreOfSeals (seal_asked b p e q x o)
  seal_asked_of e q x None = reminders_of e x
  seal_asked_of e q x (Some l) = each-append IsOfSeal (reminders b e x) (told_sealed p.from q e l) (reminders_of e x) ((λ body is. cc), tt)

  seal_extent_of : (e : ℕ) (q : ReqNo) (o : Option Extent) → AreOfSeals (seal_extent_rule b p e q o)
  seal_extent_of e q None = ((λ body is. cc), tt)
  seal_extent_of e q (Some x) = seal_asked_of e q x x.sealed

  noted_of : (e : ℕ) (o : Option Extent) → AreOfSeals (noted b e o)
  noted_of e None = tt
  noted_of e (Some x) = tt

  frozen_of : (e l : ℕ) (o : Option Extent) → AreOfSeals (frozen_rule b p e l o)
  frozen_of e l None = tt
  frozen_of e l (Some x) = if_elim AreOfSeals (is_there x.sealed) (silent b) _ (λ t. tt) (λ f. noted_of e (with_report x p.from (frozen_to l)))

  is_sealed_of : (e : ℕ) (o : Option Extent) → AreOfSeals (is_sealed_rule b p e o)
  is_sealed_of e None = tt
  is_sealed_of e (Some x) = noted_of e (with_report x p.from known_sealed)

  tail_of : (e l : ℕ) (to n : Option ℕ) → AreOfSeals (asks_tail b e l to n)
  tail_of e l (Some to) (Some n) = ((λ body is. cc), tt)
  tail_of e l (Some to) None = tt
  tail_of e l None (Some n) = tt
  tail_of e l None None = tt

  short_of : (e l : ℕ) (o : Option Extent) → AreOfSeals (short_rule b p e l o)
  short_of e l None = tt
  short_of e l (Some x) = if_elim AreOfSeals (is_there x.sealed) (asks_tail b e l (place_of x.places p.from) (first_sealed x)) (silent b) (λ t. tail_of e l (place_of x.places p.from) (first_sealed x)) (λ f. tt)

  seals_of : (body : SealBody) → AreOfSeals (seal_body_rule b p body)
  seals_of (seals.SealExtent e q) = seal_extent_of e q (b.extent e)
  seals_of (seals.Frozen e l) = frozen_of e l (b.extent e)
  seals_of (seals.IsSealed e) = is_sealed_of e (b.extent e)
  seals_of (seals.Short e l) = short_of e l (b.extent e)
  seals_of body = tt

-- ---- what the manager told

module _ (b : Catalog) (p : Packet) (to : ActorId) (q : ReqNo) where
  abbrev told_now : Packet
  told_now = packet Manager to (bodies.Stream (Modified q))

  from_body : (body : Body) → p.body ≡ body → Contains (manager_rule b p body).packets told_now → FromBuild (manager_rule b p body).after p to q
  from_body (bodies.Stream body) is there = each-contains (λ (x : Packet). Told (stream_body_rule b p body).after p x.to x.body) (stream_body_rule b p body).packets told_now (stream_tells b p body is) there
  from_body (bodies.Seal body) is there = absurd (each-contains IsOfSeal (seal_body_rule b p body).packets told_now (seals_of b p body) there (Modified q) refl)
  from_body (bodies.Append body) is there = absurd (omega (arith, there.1))
  from_body (bodies.Check body) is there = absurd (omega (arith, there.1))
  from_body (bodies.Read body) is there = absurd (omega (arith, there.1))
  from_body (bodies.Map body) is there = absurd (omega (arith, there.1))
  from_body (bodies.Table body) is there = absurd (omega (arith, there.1))

-- ---- runs

-- a server asked for these streams under the number, and they are there
pub record AreBuilt (w : StreamSystem) (server : ℕ) (q : ReqNo) : Type 0 where
  pub to : ActorId
  pub list : List Modify
  pub asked : Contains w.post (packet (Server server) to (bodies.Stream (MultiModify list q)))
  pub there : (m : Modify) → Contains list m → IsThere w m.stream

-- so it is of each that a server was told of
abbrev pub AllBuilt : StreamSystem → Type 0
AllBuilt w = (from : ActorId) (server : ℕ) (q : ReqNo) → Contains w.post (packet from (Server server) (bodies.Stream (Modified q))) → AreBuilt w server q

module _ (w : StreamSystem) (move : Move) (stay : (name : StreamName) → IsThere w name → IsThere (moved w move) name) (from : ActorId) (server : ℕ) (q : ReqNo) where
  abbrev p : Packet
  p = packet from (Server server) (bodies.Stream (Modified q))

  abbrev v : StreamSystem
  v = moved w move

  spoken_not : IsSpoken p → ⊥
  spoken_not (inl t) = cc
  spoken_not (inr (inl (s, f, t))) = cc
  spoken_not (inr (inr t)) = cc

  node_not : NodeSends w move v p → ⊥
  node_not n =
      let e = extent_of n.taken.body in
      let s = w.replica n.node e in
      let notes = (rule_of w n.node n.taken).notes in
      (each-contains (node.NodeTells n.node s e n.taken notes) (rule_of w n.node n.taken).packets p (node.node_tells n.node s n.taken) n.rule).1

  decision_not : DecisionSends w v p → ⊥
  decision_not d =
      let after = (decide_rule w.catalog d.extent (w.catalog.extent d.extent)).after in
      (each-contains (decision.DecisionTells w.catalog d.extent after) _ p (decision.decision_tells w.catalog d.extent) d.rule).1

  before_stays : AreBuilt w server q → AreBuilt v server q
  before_stays a = record {
    to = a.to;
    list = a.list;
    asked = (moved_gains w move).post _ a.asked;
    there = λ m among. stay m.stream (a.there m among);
  }

  manager_built : ManagerSends w move v p → from ≡ Manager → AreBuilt v server q
  manager_built m of =
      let f : FromBuild (manager_rule w.catalog m.taken m.taken.body).after m.taken (Server server) q =
      from_body w.catalog m.taken (Server server) q m.taken.body refl (subst (λ a. Contains (manager_rule w.catalog m.taken m.taken.body).packets (packet a (Server server) (bodies.Stream (Modified q)))) of m.rule) in
      let body = bodies.Stream (MultiModify f.list q) in
      let same : m.taken ≡ packet (Server server) m.taken.to body = same_packet m.taken (Server server) m.taken.to body (sym f.asker) refl f.body in
      record {
        to = m.taken.to;
        list = f.list;
        asked = (moved_gains w move).post _ (subst (Contains w.post) same (contains_get w.post m.reaches.number m.taken m.reaches.sent));
        there = λ x among. (let k = each-contains (λ (y : Modify). (z : Stream) × (stream_of (manager_rule w.catalog m.taken m.taken.body).after.stream y.stream ≡ Some z)) f.list x f.there among in
            (k.0, ap (λ (b : Catalog). stream_of b.stream x.stream) m.catalog ∙ k.1));
      }

  built_next : AllBuilt w → Contains v.post p → AreBuilt v server q
  built_next old there = elim ((moved_gains w move).sends p there) as (λ z. AreBuilt v server q) [
    | inl before ↦ before_stays (old from server q before)
    | inr sent ↦ elim sent as (λ z. AreBuilt v server q) [
      | inl spoken ↦ absurd (spoken_not spoken)
      | inr a ↦ elim a as (λ z. AreBuilt v server q) [
        | inl n ↦ absurd (node_not n)
        | inr b ↦ elim b as (λ z. AreBuilt v server q) [
          | inl m ↦ manager_built m (each-contains (manager.ManagerTells w.catalog m.taken) (manager_rule w.catalog m.taken m.taken.body).packets p (manager.manager_tells w.catalog m.taken) m.rule).0
          | inr d ↦ absurd (decision_not d)
        ]
      ]
    ]
  ]

module _ (nodes target : ℕ) where
  abbrev after : List Move → StreamSystem
  after moves = run_moves moves (start nodes target)

  -- no stream goes in a run
  pub streams_stay : (moves : List Move) (move : Move) (name : StreamName) → IsThere (after moves) name → IsThere (moved (after moves) move) name
  streams_stay moves move name (x, is) =
      let l = (lists_grow nodes target moves (move ∷ [])).longer name x is in
      (l.now, subst (λ (v : StreamSystem). stream_of v.catalog.stream name ≡ Some l.now) (run_moves_push moves move (start nodes target)) l.is)

  -- with one move more
  pub built_pushed : (moves : List Move) (move : Move) → AllBuilt (after moves) → AllBuilt (after (moves ++ move ∷ []))
  built_pushed moves move old =
      subst AllBuilt (sym (run_moves_push moves move (start nodes target))) (λ from server q there. built_next (after moves) move (streams_stay moves move) from server q old there)

  pub none_built : AllBuilt (start nodes target)
  none_built from server q there = absurd (omega (arith, there.1))
