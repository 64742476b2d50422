-- Which streams the manager builds in an event: those of a MultiModify that it takes, each as its source stands. All other streams that
-- come to be are empty.
use Rattle.std.specs.Prelude.{max}
use Rattle.std.proofs.Common.{◌≡◌, ◌⊎◌, ℕ, zero, suc, Bool, true, false, not, ◌&&◌, ◌||◌, ◌==◌, List, [], ◌∷◌, Option, Some, None, is_none, slice_get, Contains, refl, sym, ap, ◌∙◌, subst, inl, inr, arith, if◌then◌else◌}
use Rattle.std.proofs.lemmas.Bool.{and_parts}
use Rattle.wire.specs.declared.actor.ActorId.{ActorId}
use Rattle.wire.specs.declared.actor.ActorId.TheVariants.{Node, Manager, Map, Server, User}
use Rattle.wire.specs.declared.actor.ReqNo.{ReqNo}
use Rattle.wire.specs.declared.body.Body.{Body}
use Rattle.wire.specs.declared.body.Body.TheVariants as bodies
use Rattle.wire.specs.declared.body.StreamBody.{StreamBody}
use Rattle.wire.specs.declared.body.StreamBody.TheVariants.{MultiModify}
use Rattle.wire.specs.declared.packet.Packet.{Packet}
use Rattle.wire.specs.declared.refusal.Refusal.{Refusal}
use Rattle.wire.specs.declared.streams.Modify.{Modify}
use Rattle.wire.specs.declared.streams.Source.{Source}
use Rattle.wire.specs.declared.streams.StreamName.{StreamName}
use Rattle.streams.specs.Streams.{Stream, Streams, stream_of, whole, last_of, joined, built, modified}
use Rattle.model_streams.specs.declared.event.Event.{Event}
use Rattle.model_streams.specs.declared.event.Event.TheVariants.{Submit, Deliver, Stop, Restart, Decide, GiveUp, Assign, Renew, Moment, Checkpoint, Split, Merge}
use Rattle.model_streams.specs.declared.manager_record.ManagerRecord.TheVariants as records
use Rattle.model_streams.specs.Actors.{is_user}
use Rattle.model_streams.specs.Manager.{Catalog, sealed_lengths, modify_refusal, modify_taken, manager_rule, decide_rule, writes}
use Rattle.model_streams.specs.Node.{extent_of, node_rule}
use Rattle.model_streams.specs.Outcome.{Outcome, packet, or_refused}
use Rattle.model_streams.specs.StreamSystem.{StreamSystem, is_request, stops_in, stands_in, burnt, unsent, node_performs, node_halted, node_stops, manager_halted, after_manager_rule, manager_performs, manager_stops, is_present, delivered, delivered_if, stop, restart, happens}
use Rattle.model_streams.proofs.Tests.{if_elim}
use Rattle.laws_streams.proofs.BuildRequests.{ServersAsk}
use Rattle.laws_streams.proofs.BuildTests.{Joins, Builds, BuildsAll, all_built, built_keeps, modified_keeps, joined_alone, builds_of}
use Rattle.laws_streams.proofs.Choices.{Each, contains_get}
use Rattle.laws_streams.proofs.ListRules.{BuildsStream, IsBuiltOf, Goes, rule_goes, decide_goes}
use Rattle.laws_streams.proofs.RisingFences.{with_here}
use Rattle.laws_streams.proofs.StreamAnswers.{same_packet}
use Rattle.laws_streams.proofs.StreamNames.{with_stream_elim}
use Rattle.laws_streams.proofs.WholeLists.{none_whole}
use Rattle.laws_stream_machine.specs.Refinement.{IsThere}
use Rattle.laws_clusters.specs.ServerEvents.{is_written, takes_build, built_by}

-- ---- what an event builds

abbrev pub built_at : StreamSystem → Packet → ActorId → List Modify
built_at w p Manager = built_by w p p.body
built_at w p to = []

abbrev pub built_if : StreamSystem → Option Packet → List Modify
built_if w None = []
built_if w (Some p) = built_at w p p.to

abbrev pub built_in : StreamSystem → Event → List Modify
built_in w (Deliver number) = built_if w (slice_get w.post number)
built_in w event = []

-- a stream is built as an entry of the list says: where that has one source alone, as this one stands
pub record FromList (b : Catalog) (list : List Modify) (s : StreamName) (z : Stream) : Type 0 where
  pub entry : Modify
  pub among : Contains list entry
  pub name : entry.stream ≡ s
  pub of : (source : Source) → entry.sources ≡ source ∷ [] → (x : Stream) → stream_of b.stream source.stream ≡ Some x → IsBuiltOf b source.stream z

-- a server asked for the list, and all streams that were there stay as they are
pub record Takes (w : StreamSystem) (list : List Modify) (v : StreamSystem) : Type 0 where
  pub server : ℕ
  pub to : ActorId
  pub request : ReqNo
  pub asked : Contains w.post (packet (Server server) to (bodies.Stream (MultiModify list request)))
  pub kept : (s : StreamName) (x : Stream) → stream_of w.catalog.stream s ≡ Some x → stream_of v.catalog.stream s ≡ Some x

-- From one stream system to the next these are built, and were not there.
pub record BuildsNow (w : StreamSystem) (list : List Modify) (v : StreamSystem) : Type 0 where
  pub absent : (m : Modify) → Contains list m → stream_of w.catalog.stream m.stream ≡ None
  pub there : (m : Modify) → Contains list m → IsThere v m.stream
  pub born : (s : StreamName) (z : Stream) → stream_of w.catalog.stream s ≡ None → stream_of v.catalog.stream s ≡ Some z → FromList w.catalog list s z ⊎ ((list ≡ []) × (whole z ≡ []))
  pub taken : (list ≡ []) ⊎ Takes w list v

no_member : {A : Type 0} (x : A) → Contains [] x → ⊥
no_member x (at, less, is) = omega (arith, less)

none_and_some : (o : Option Stream) (x : Stream) → o ≡ None → o ≡ Some x → ⊥
none_and_some o x none some = let c : None ≡ Some x = sym none ∙ some in cc

-- where a rule's record stands, and where not
taken_of : (t : Streams) (a b : Bool) (x y z : StreamSystem) → (not a || b) ≡ true → x.catalog.stream ≡ t → z.catalog.stream ≡ t → (if a then (if b then x else y) else z).catalog.stream ≡ t
taken_of t false b x y z is one two = two
taken_of t true true x y z is one two = one
taken_of t true false x y z is one two = absurd cc

left_of : (t : Streams) (a b : Bool) (x y z : StreamSystem) → (not a || b) ≡ false → y.catalog.stream ≡ t → (if a then (if b then x else y) else z).catalog.stream ≡ t
left_of t true false x y z is one = one
left_of t true true x y z is one = absurd cc
left_of t false b x y z is one = absurd cc

-- ---- a list that is taken

module _ (b : Catalog) (p : Packet) (list : List Modify) (free : modify_refusal b p list ≡ None) where
  -- from the catalog's streams to these
  record BuiltFrom (streams : Streams) : Type 0 where
    kept : (s : StreamName) (x : Stream) → stream_of b.stream s ≡ Some x → stream_of streams s ≡ Some x
    lists : (s : StreamName) (z : Stream) → stream_of streams s ≡ Some z → (stream_of b.stream s ≡ Some z) ⊎ FromList b list s z

  max_none : (n : ℕ) → max n 0 ≡ n
  max_none n = omega arith

  module _ (streams : Streams) (from : BuiltFrom streams) (m : Modify) (among : Contains list m) (builds : Builds (sealed_lengths b) streams m) where
    joined_of : (source : Source) → m.sources ≡ source ∷ [] → (x : Stream) → stream_of b.stream source.stream ≡ Some x → IsBuiltOf b source.stream (joined streams m.sources)
    joined_of source one x there =
        subst (λ (xs : List Source). Each (Joins (sealed_lengths b) streams) xs → IsBuiltOf b source.stream (joined streams xs)) (sym one)
        (λ all.
        let same : all.0.stream ≡ x = (let c : Some all.0.stream ≡ Some x = sym all.0.there ∙ from.kept source.stream x there in cc) in
        record {
          list = x;
          there = there;
          same = joined_alone (sealed_lengths b) streams source all.0 ∙ ap whole same;
          fence = max_none source.generation ∙ sym all.0.fence ∙ ap (λ (v : Stream). v.fence) same;
          closed = λ e is. all.0.closed e (ap (λ (v : Stream). last_of v.extents) same ∙ is);
        })
        builds.sources

    built_from : BuiltFrom (built streams m)
    built_from = record {
      kept = λ s x is. built_keeps (sealed_lengths b) streams m builds s x (from.kept s x is);
      lists = λ s z. with_stream_elim (λ o. o ≡ Some z → (stream_of b.stream s ≡ Some z) ⊎ FromList b list s z) streams m.stream (joined streams m.sources) s
          (λ k is. let c : joined streams m.sources ≡ z = cc in inr (record { entry = m; among = among; name = sym k; of = λ source one x there. subst (IsBuiltOf b source.stream) c (joined_of source one x there) }))
          (λ is. from.lists s z is);
    }

  each_among : (rest : List Modify) → ((m : Modify) → Contains rest m → Contains list m) → Each (λ (m : Modify). Contains list m) rest
  each_among [] inside = tt
  each_among (m ∷ rest) inside = (
    inside m (0, omega arith, refl),
    each_among rest (λ n among. let (k, below, is) = among in inside n (suc k, omega (arith, below), is)),
  )

  all_build : BuildsAll (sealed_lengths b) b.stream list
  all_build = (builds_of b p list free).1

  all_from : BuiltFrom (modified b.stream list)
  all_from =
      all_built (sealed_lengths b) BuiltFrom (λ m. Contains list m) (λ streams m among builds from. built_from streams from m among builds) list b.stream (each_among list (λ m among. among)) all_build
      (record { kept = λ s x there. there; lists = λ s z there. inl there })

  -- each was not there, and is
  member_built : (rest : List Modify) (streams : Streams) → BuildsAll (sealed_lengths b) streams rest → (m : Modify) → Contains rest m →
      (stream_of streams m.stream ≡ None) × ((z : Stream) × (stream_of (modified streams rest) m.stream ≡ Some z))
  member_built [] streams all m among = absurd (no_member m among)
  member_built (n ∷ rest) streams all m (zero, less, is) =
      subst (λ (k : Modify). (stream_of streams k.stream ≡ None) × ((z : Stream) × (stream_of (modified (built streams n) rest) k.stream ≡ Some z))) is
      (all.0.absent, (joined streams n.sources, modified_keeps (sealed_lengths b) rest (built streams n) all.1 n.stream (joined streams n.sources) (with_here streams n.stream (joined streams n.sources))))
  member_built (n ∷ rest) streams all m (suc k, less, is) =
      let later = member_built rest (built streams n) all.1 m (k, omega (arith, less), is) in
      (was_absent (stream_of streams m.stream) refl later.0, later.1)
    where
      was_absent : (o : Option Stream) → stream_of streams m.stream ≡ o → stream_of (built streams n) m.stream ≡ None → stream_of streams m.stream ≡ None
      was_absent None is_it none = is_it
      was_absent (Some x) is_it none = absurd (none_and_some (stream_of (built streams n) m.stream) x none (built_keeps (sealed_lengths b) streams n all.0 m.stream x is_it))

-- ---- what is left

module _ (w : StreamSystem) where
  abbrev Same : StreamSystem → Type 0
  Same v = v.catalog.stream ≡ w.catalog.stream

  pub none_now : (v : StreamSystem) → ((s : StreamName) (z : Stream) → stream_of w.catalog.stream s ≡ None → stream_of v.catalog.stream s ≡ Some z → whole z ≡ []) → BuildsNow w [] v
  none_now v empty = record {
    absent = λ m among. absurd (no_member m among);
    there = λ m among. absurd (no_member m among);
    born = λ s z none there. inr (refl, empty s z none there);
    taken = inl refl;
  }

  same_now : (v : StreamSystem) → Same v → BuildsNow w [] v
  same_now v same = none_now v (λ s z none there. absurd (none_and_some (stream_of w.catalog.stream s) z none (ap (λ (t : Streams). stream_of t s) (sym same) ∙ there)))

  -- a rule of the manager that builds nothing
  goes_empty : (post : List Packet) (c : Catalog) → Goes post w.catalog c → ((s : StreamName) → BuildsStream post s → ⊥) → (s : StreamName) (z : Stream) → stream_of w.catalog.stream s ≡ None →
      stream_of c.stream s ≡ Some z → whole z ≡ []
  goes_empty post c goes none s z absent there = elim (goes.lists s z there) [
    | inl o ↦ absurd (none_and_some (stream_of w.catalog.stream s) o.was absent o.there)
    | inr n ↦ elim n [
      | inl e ↦ none_whole z e.0 e.1
      | inr k ↦ elim k [
        | inl g ↦ absurd (none_and_some (stream_of w.catalog.stream s) g.1.was absent g.1.there)
        | inr h ↦ elim h [ inl g ↦ absurd (none_and_some (stream_of w.catalog.stream s) g.was absent g.there) | inr b ↦ absurd (none s b.asked) ]
      ]
    ]
  ]

  -- ---- records of the manager

  abbrev after_all_of : Outcome Catalog → StreamSystem
  after_all_of o = after_manager_rule (record w { manager_cell = burnt w.manager_cell o.written }) o

  -- a rule whose record stands
  stands_after : (o : Outcome Catalog) → is_written w.manager_cell o.written ≡ true → (manager_performs w o).catalog.stream ≡ o.after.stream
  stands_after o t = taken_of o.after.stream (stops_in w.manager_cell o.written) (stands_in w.manager_cell) (manager_halted (after_manager_rule w (unsent o))) (manager_halted w) (after_all_of o) t refl refl

  -- and one whose record does not
  lost_after : (o : Outcome Catalog) → is_written w.manager_cell o.written ≡ false → Same (manager_performs w o)
  lost_after o f = left_of w.catalog.stream (stops_in w.manager_cell o.written) (stands_in w.manager_cell) (manager_halted (after_manager_rule w (unsent o))) (manager_halted w) (after_all_of o) f refl

  either : (o : Outcome Catalog) → ((manager_performs w o).catalog.stream ≡ o.after.stream) ⊎ Same (manager_performs w o)
  either o = by (is_written w.manager_cell o.written) refl
    where
      by : (b : Bool) → is_written w.manager_cell o.written ≡ b → ((manager_performs w o).catalog.stream ≡ o.after.stream) ⊎ Same (manager_performs w o)
      by true t = inl (stands_after o t)
      by false f = inr (lost_after o f)

  -- a rule that brings no stream but empty ones
  empty_now : (o : Outcome Catalog) → ((s : StreamName) (z : Stream) → stream_of w.catalog.stream s ≡ None → stream_of o.after.stream s ≡ Some z → whole z ≡ []) → BuildsNow w [] (manager_performs w o)
  empty_now o empty = elim (either o) [
    | inl after ↦ none_now (manager_performs w o) (λ s z none there. empty s z none (ap (λ (t : Streams). stream_of t s) (sym after) ∙ there))
    | inr same ↦ same_now (manager_performs w o) same
  ]

  -- ---- a MultiModify

  module _ (asks : ServersAsk w.post) (p : Packet) (sent : Contains w.post p) (list : List Modify) (q : ReqNo) (body : p.body ≡ bodies.Stream (MultiModify list q)) where
    abbrev rule : Option Refusal → Outcome Catalog
    rule x = or_refused w.catalog Manager p q x (modify_taken w.catalog p list q)

    abbrev all_written : Bool
    all_written = is_written w.manager_cell (writes (records.MultiModify list))

    -- it is taken
    taken_now : modify_refusal w.catalog p list ≡ None → all_written ≡ true → BuildsNow w list (manager_performs w (rule None))
    taken_now free stands =
        let now : (manager_performs w (rule None)).catalog.stream ≡ modified w.catalog.stream list = stands_after (rule None) stands in
        let (server, from_server) = (asks p list q sent body).0 in
        let from : BuiltFrom w.catalog p list free (modified w.catalog.stream list) = all_from w.catalog p list free in
        record {
          absent = λ m among. (member_built w.catalog p list free list w.catalog.stream (all_build w.catalog p list free) m among).0;
          there = λ m among. (let (z, is) = (member_built w.catalog p list free list w.catalog.stream (all_build w.catalog p list free) m among).1 in (z, ap (λ (t : Streams). stream_of t m.stream) now ∙ is));
          born = λ s z none there. elim (from.lists s z (ap (λ (t : Streams). stream_of t s) (sym now) ∙ there)) [
            | inl was ↦ absurd (none_and_some (stream_of w.catalog.stream s) z none was)
            | inr new ↦ inl new
          ];
          taken = inr (record {
            server = server;
            to = p.to;
            request = q;
            asked = subst (Contains w.post) (same_packet p (Server server) p.to (bodies.Stream (MultiModify list q)) from_server refl body) sent;
            kept = λ s x is. ap (λ (t : Streams). stream_of t s) now ∙ from.kept s x is;
          });
        }

    by_refusal : (x : Option Refusal) → modify_refusal w.catalog p list ≡ x → (b : Bool) → all_written ≡ b → BuildsNow w (if is_none x && b then list else []) (manager_performs w (rule x))
    by_refusal (Some why) is b stands = same_now (manager_performs w (rule (Some why))) refl
    by_refusal None is true stands = taken_now is stands
    by_refusal None is false stands = same_now (manager_performs w (rule None)) (lost_after (rule None) stands)

    modifies_now : (up : Bool) → w.manager_cell.up ≡ up → BuildsNow w (if up && (is_none (modify_refusal w.catalog p list) && all_written) then list else []) (if up then manager_performs w (rule (modify_refusal w.catalog p list)) else w)
    modifies_now true is = by_refusal (modify_refusal w.catalog p list) refl all_written refl
    modifies_now false is = same_now w refl

  -- ---- packets to the manager

  module _ (fresh : w.catalog.extent (suc w.catalog.count) ≡ None) (asks : ServersAsk w.post) (p : Packet) (sent : Contains w.post p) where
    only : (x : Packet) → Contains (p ∷ []) x → p ≡ x
    only x (zero, less, is) = is
    only x (suc k, less, is) = absurd (omega (arith, less))

    asks_one : ServersAsk (p ∷ [])
    asks_one x list q there is = asks x list q (subst (Contains w.post) (only x there) sent) is

    -- any other packet
    other_now : (body : Body) → p.body ≡ body → ((list : List Modify) (q : ReqNo) → body ≡ bodies.Stream (MultiModify list q) → ⊥) → BuildsNow w [] (if w.manager_cell.up then manager_performs w (manager_rule w.catalog p body) else w)
    other_now body is none =
        if_elim (λ (v : StreamSystem). BuildsNow w [] v) w.manager_cell.up (manager_performs w (manager_rule w.catalog p body)) w
        (λ up. empty_now (manager_rule w.catalog p body)
        (goes_empty (p ∷ []) (manager_rule w.catalog p body).after (rule_goes (p ∷ []) w.catalog p fresh (0, omega arith, refl) asks_one body is)
        (λ s b. none b.list b.request (sym is ∙ ap (λ (x : Packet). x.body) (only b.packet b.sent) ∙ b.body))))
        (λ down. same_now w refl)

    stream_now : (body : StreamBody) → p.body ≡ bodies.Stream body → BuildsNow w (built_by w p (bodies.Stream body)) (if w.manager_cell.up then manager_performs w (manager_rule w.catalog p (bodies.Stream body)) else w)
    stream_now (MultiModify list q) is = modifies_now asks p sent list q is w.manager_cell.up refl
    stream_now body is = other_now (bodies.Stream body) is (λ list q same. cc)

    body_now : (body : Body) → p.body ≡ body → BuildsNow w (built_by w p body) (if w.manager_cell.up then manager_performs w (manager_rule w.catalog p body) else w)
    body_now (bodies.Stream body) is = stream_now body is
    body_now body is = other_now body is (λ list q same. cc)

    delivered_now : (to : ActorId) → BuildsNow w (built_at w p to) (delivered w p to)
    delivered_now Manager = body_now p.body refl
    delivered_now (Node n) =
        let e = extent_of p.body in
        let o = node_rule n (w.replica n e) p p.body in
        if_elim (λ (v : StreamSystem). BuildsNow w [] v) (w.cell n).up (node_performs w n e o) w
        (λ t. if_elim (λ (v : StreamSystem). BuildsNow w [] v) (stops_in (w.cell n) o.written) _ _
        (λ s. if_elim (λ (v : StreamSystem). BuildsNow w [] v) (stands_in (w.cell n)) _ _ (λ k. same_now _ refl) (λ k. same_now _ refl)) (λ r. same_now _ refl))
        (λ f. same_now w refl)
    delivered_now Map = same_now w refl
    delivered_now (Server s) = same_now w refl
    delivered_now (User u) = same_now w refl

  -- ---- events

  module _ (fresh : w.catalog.extent (suc w.catalog.count) ≡ None) (asks : ServersAsk w.post) where
    deliver_now : (number : ℕ) (o : Option Packet) → slice_get w.post number ≡ o → BuildsNow w (built_if w o) (delivered_if w o)
    deliver_now number None at = same_now w refl
    deliver_now number (Some p) at = delivered_now fresh asks p (contains_get w.post number p at) p.to

    stop_now : (actor : ActorId) (call : ℕ) (keep : Bool) → BuildsNow w [] (stop w actor call keep)
    stop_now (Node n) call keep =
        if_elim (λ (v : StreamSystem). BuildsNow w [] v) (w.cell n).up (node_stops w n call keep) w
        (λ t. if_elim (λ (v : StreamSystem). BuildsNow w [] v) (call == 0) (node_halted w n) _ (λ k. same_now _ refl) (λ k. same_now _ refl)) (λ f. same_now w refl)
    stop_now Manager call keep =
        if_elim (λ (v : StreamSystem). BuildsNow w [] v) w.manager_cell.up (manager_stops w call keep) w
        (λ t. if_elim (λ (v : StreamSystem). BuildsNow w [] v) (call == 0) (manager_halted w) _ (λ k. same_now _ refl) (λ k. same_now _ refl)) (λ f. same_now w refl)
    stop_now Map call keep = same_now w refl
    stop_now (Server s) call keep = same_now w refl
    stop_now (User u) call keep = same_now w refl

    restart_now : (actor : ActorId) → BuildsNow w [] (restart w actor)
    restart_now (Node n) = if_elim (λ (v : StreamSystem). BuildsNow w [] v) ((w.cell n).up || not (is_present w n)) w _ (λ k. same_now w refl) (λ k. same_now _ refl)
    restart_now Manager = if_elim (λ (v : StreamSystem). BuildsNow w [] v) w.manager_cell.up w _ (λ k. same_now w refl) (λ k. same_now _ refl)
    restart_now Map = same_now w refl
    restart_now (Server s) = same_now w refl
    restart_now (User u) = same_now w refl

    -- what the event builds, and nothing else but empty streams
    pub happens_builds : (event : Event) → BuildsNow w (built_in w event) (happens w event)
    happens_builds (Submit user to body) = if_elim (λ (v : StreamSystem). BuildsNow w [] v) (is_request body) _ w (λ t. same_now _ refl) (λ f. same_now w refl)
    happens_builds (Deliver number) = deliver_now number (slice_get w.post number) refl
    happens_builds (Stop actor call keep) = stop_now actor call keep
    happens_builds (Restart actor) = restart_now actor
    happens_builds (Decide e) =
        let o = decide_rule w.catalog e (w.catalog.extent e) in
        if_elim (λ (v : StreamSystem). BuildsNow w [] v) w.manager_cell.up (manager_performs w o) w
        (λ up. empty_now o (goes_empty [] o.after (decide_goes [] w.catalog e (w.catalog.extent e) refl) (λ s b. no_member b.packet b.sent))) (λ down. same_now w refl)
    happens_builds (GiveUp server range pick) = same_now w refl
    happens_builds (Assign range server until) = same_now w refl
    happens_builds (Renew range server until) = same_now w refl
    happens_builds (Moment now) = same_now w refl
    happens_builds (Checkpoint server range combine) = same_now w refl
    happens_builds (Split server range key) = same_now w refl
    happens_builds (Merge server left right) = same_now w refl

-- ---- who is refused

-- no list of a user is taken
pub users_build_none : (w : StreamSystem) (p : Packet) (list : List Modify) → is_user p.from ≡ true → takes_build w p list ≡ true → ⊥
users_build_none w p list user takes =
    let parts = and_parts w.manager_cell.up (is_none (modify_refusal w.catalog p list) && is_written w.manager_cell (writes (records.MultiModify list))) takes in
    let free = none_of (modify_refusal w.catalog p list) (and_parts (is_none (modify_refusal w.catalog p list)) (is_written w.manager_cell (writes (records.MultiModify list))) parts.1).0 in
    let c : true ≡ false = sym user ∙ (builds_of w.catalog p list free).0 in cc
  where
    none_of : (o : Option Refusal) → is_none o ≡ true → o ≡ None
    none_of None t = refl
    none_of (Some why) t = absurd cc
