-- The base of a log is 0, or was named by a Trim of it or of the log that it was built from.
use Rattle.std.proofs.Common.{◌≡◌, ◌⊎◌, ℕ, suc, ◌≤◌, Bool, true, false, not, ◌&&◌, ◌||◌, ◌==◌, nat_le, List, [], ◌∷◌, ◌++◌, length, Option, Some, None, Result, Ok, Err, slice_get, Contains, refl, sym, ap, ◌∙◌, inl, inr, arith, subst, append-nil, append_assoc}
use Rattle.block_types.specs.declared.record.Nodes.{Nodes}
use Rattle.wire.specs.declared.actor.ActorId.{ActorId}
use Rattle.wire.specs.declared.actor.ActorId.TheVariants.{Node, Manager, Map, Server, User}
use Rattle.wire.specs.declared.actor.ReqNo.{ReqNo}
use Rattle.wire.specs.declared.body.StreamBody.{StreamBody}
use Rattle.wire.specs.declared.body.StreamBody.TheVariants.{CreateStream, OpenStreams, Confirm, Confirmed, Extend, Trim, MultiModify}
use Rattle.wire.specs.declared.body.Body.{Body}
use Rattle.wire.specs.declared.body.Body.TheVariants as bodies
use Rattle.wire.specs.declared.packet.Packet.{Packet}
use Rattle.wire.specs.declared.refusal.Refusal.{Refusal}
use Rattle.wire.specs.declared.refusal.Refusal.TheVariants.{Stale, BadPick}
use Rattle.wire.specs.declared.streams.Modify.{Modify}
use Rattle.wire.specs.declared.streams.Source.{Source}
use Rattle.wire.specs.declared.streams.StreamName.{StreamName}
use Rattle.streams.specs.Streams.{Stream, Streams, stream_of, base_of, empty_stream, log_name, longer, shorter, fenced_at, extending, extended_if, joined, built, modified, trimmed, trimming}
use Rattle.model_streams.specs.declared.event.Event.{Event}
use Rattle.model_streams.specs.declared.event.Event.TheVariants.{Submit, Deliver, Stop, Restart, Decide, GiveUp, Assign, Renew, Moment, Checkpoint, Split, Merge}
use Rattle.model_streams.specs.declared.extent.Extent.{Extent}
use Rattle.model_streams.specs.Actors.{is_user, generation_of}
use Rattle.model_streams.specs.Manager.{Catalog, create_refusal, create_taken, open_refusal, open_taken, confirm_refusal, answer, is_foreign, is_pick, sealed_lengths, extend_made, last_told, extend_answered, extend_rule, trim_answered, trim_rule, modify_refusal, modify_taken, stream_body_rule, manager_rule, decide_rule}
use Rattle.model_streams.specs.Node.{extent_of, node_rule}
use Rattle.model_streams.specs.Outcome.{Outcome, packet, refused, or_refused}
use Rattle.model_streams.specs.StreamSystem.{StreamSystem, start, Move, moved, run_moves, stops_in, stands_in, node_halted, node_performs, node_takes, manager_halted, manager_performs, delivered, delivered_if, is_request, node_stops, manager_stops, stop, is_present, restart, happens, is_server_call, are_of_one_kind, is_told, is_table_note}
use Rattle.model_streams.specs.StreamSystem.Move.{Happens, Asks, Says, Observes}
use Rattle.model_streams.proofs.Tests.{if_elim}
use Rattle.laws_streams.specs.Fences.{Reaches}
use Rattle.laws_streams.specs.Answers.{TrimmedBy, BuiltBy, NamedThrough, BasesTrimmed}
use Rattle.laws_streams.proofs.Choices.{contains_get, Each}
use Rattle.laws_streams.proofs.StreamNames.{same_name, with_stream_elim}
use Rattle.laws_streams.proofs.BuildTests.{IsOfOneKind, Joins, Builds, BuildsAll, all_built, joined_gone, first_under, entries_of, builds_of}
use Rattle.laws_streams.proofs.BuildRequests.{ServersAsk, run_asks, none_asked}
use Rattle.laws_streams.proofs.TrimTests.{Trims, trims, trimmed_elim, shorter_base}
use Rattle.laws_streams.proofs.RisingFences.{run_rises}
use Rattle.laws_streams.proofs.Invariant.{run_moves_push}
use Rattle.laws_streams.proofs.PacketSources.{post_stays}
use Rattle.laws_streams.proofs.StreamAnswers.{same_packet}
use Rattle.laws_streams.proofs.KeptStreams.{seal_same, decide_same}

-- ---- rules

-- the list of the log began at this base
abbrev BeganAt : Streams → ℕ → ℕ → Type 0
BeganAt streams range base = (x : Stream) × (stream_of streams (log_name range) ≡ Some x) × (base ≡ base_of x)

-- the packet is a Trim to this base, under the fence that the log had and has
record Names (p : Packet) (streams : Streams) (range base fence : ℕ) : Type 0 where
  generation : ℕ
  to_blob : Bool
  request : ReqNo
  body : p.body ≡ bodies.Stream (Trim range generation base to_blob request)
  no_user : is_user p.from ≡ false
  log : Stream
  there : stream_of streams (log_name range) ≡ Some log
  held : generation ≡ log.fence
  under : generation ≤ fence

-- the packet is a MultiModify that builds the range's log, first of all from this other log
record BuildsLog (p : Packet) (range source fence : ℕ) : Type 0 where
  list : List Modify
  request : ReqNo
  body : p.body ≡ bodies.Stream (MultiModify list request)
  no_user : is_user p.from ≡ false
  entry : Modify
  among : Contains list entry
  name : entry.stream ≡ log_name range
  generation : ℕ
  others : List Source
  sources : entry.sources ≡ record { stream = log_name source; generation = generation } ∷ others
  under : generation ≤ fence

-- the log began at this base; or the packet builds it from one that did, through these
abbrev BuiltThrough : List ℕ → Packet → Streams → ℕ → ℕ → ℕ → Type 0
BuiltThrough [] p streams range base fence = (x : Stream) × (stream_of streams (log_name range) ≡ Some x) × (base ≡ base_of x) × (x.fence ≡ fence)
BuiltThrough (source ∷ through) p streams range base fence = (n : BuildsLog p range source fence) × BuiltThrough through p streams source base n.generation

-- the list of a log begins at 0, where it began, where the packet trims it, or where one began that the packet builds it from
abbrev BaseOf : Packet → Streams → ℕ → Stream → Type 0
BaseOf p streams range z =
    (base_of z ≡ 0) ⊎ (BeganAt streams range (base_of z) ⊎ (Names p streams range (base_of z) z.fence
    ⊎ ((through : List ℕ) × BuiltThrough through p streams range (base_of z) z.fence)))

abbrev Bases : Packet → Streams → Streams → Type 0
Bases p streams after = (range : ℕ) (z : Stream) → stream_of after (log_name range) ≡ Some z → BaseOf p streams range z

module _ (p : Packet) (b : Catalog) where
  same_bases : Bases p b.stream b.stream
  same_bases range z there = inr (inl (z, there, refl))

  created_bases : (s : StreamName) (fence : ℕ) (q : ReqNo) (o : Option Refusal) → Bases p b.stream (or_refused b Manager p q o (create_taken b p s fence q)).after.stream
  created_bases s fence q (Some refusal) range z = same_bases range z
  created_bases s fence q None range z =
      with_stream_elim (λ o. o ≡ Some z → BaseOf p b.stream range z) b.stream s (empty_stream fence) (log_name range)
      (λ k there. let c : empty_stream fence ≡ z = cc in inl (ap base_of (sym c))) (λ there. same_bases range z there)

  fenced_base : (generation range : ℕ) (o : Option Stream) → stream_of b.stream (log_name range) ≡ o → (z : Stream) → fenced_at generation o ≡ Some z → BaseOf p b.stream range z
  fenced_base generation range None was z there = absurd cc
  fenced_base generation range (Some x) was z there =
      let c : record x { fence = generation } ≡ z = cc in
      inr (inl (x, was, ap base_of (sym c)))

  opened_bases : (opening generation : ℕ) (q : ReqNo) (o : Option Refusal) → Bases p b.stream (or_refused b Manager p q o (open_taken b p opening generation q)).after.stream
  opened_bases opening generation q (Some refusal) range z = same_bases range z
  opened_bases opening generation q None range z =
      if_elim (λ o. o ≡ Some z → BaseOf p b.stream range z) (range == opening) (fenced_at generation (stream_of b.stream (log_name range))) (stream_of b.stream (log_name range))
      (λ t there. fenced_base generation range (stream_of b.stream (log_name range)) refl z there) (λ t there. same_bases range z there)

  confirmed_bases : (q : ReqNo) (o : Option Refusal) → Bases p b.stream (or_refused b Manager p q o (answer b p (Confirmed q))).after.stream
  confirmed_bases q (Some refusal) = same_bases
  confirmed_bases q None = same_bases

  -- ---- Extend

  grown_bases : (s : StreamName) (o : Option Stream) → stream_of b.stream s ≡ o → Bases p b.stream (extended_if b.stream s (suc b.count) o)
  grown_bases s None there range z = same_bases range z
  grown_bases s (Some x) there range z =
      with_stream_elim (λ o. o ≡ Some z → BaseOf p b.stream range z) b.stream s (longer (suc b.count) x) (log_name range)
      (λ k is. let c : longer (suc b.count) x ≡ z = cc in inr (inl (x, ap (stream_of b.stream) k ∙ there, ap base_of (sym c)))) (λ is. same_bases range z is)

  answered_bases : (s : StreamName) (generation : ℕ) (pick : Nodes) (q : ReqNo) (r : Result (Option ℕ) Refusal) → Bases p b.stream (extend_answered b p s generation pick q r).after.stream
  answered_bases s generation pick q (Err refusal) = same_bases
  answered_bases s generation pick q (Ok None) =
      if_elim (λ (o : Outcome Catalog). Bases p b.stream o.after.stream) (is_pick b.nodes pick) (extend_made b p s generation pick q) (refused b Manager p q BadPick)
      (λ t. grown_bases s (stream_of b.stream s) refl) (λ t. same_bases)
  answered_bases s generation pick q (Ok (Some e)) = by_extent (b.extent e)
    where
      by_extent : (o : Option Extent) → Bases p b.stream (last_told b p e o q).after.stream
      by_extent None = same_bases
      by_extent (Some x) = same_bases

  extend_bases : (s : StreamName) (generation : ℕ) (last : Option ℕ) (pick : Nodes) (q : ReqNo) → Bases p b.stream (extend_rule b p s generation last pick q).after.stream
  extend_bases s generation last pick q =
      let r = extending (sealed_lengths b) (stream_of b.stream s) generation last in
      if_elim (λ (o : Outcome Catalog). Bases p b.stream o.after.stream) (is_foreign p.from s.range) (refused b Manager p q Stale) (extend_answered b p s generation pick q r)
      (λ t. same_bases) (λ t. answered_bases s generation pick q r)

  -- ---- Trim

  module _ (trimmed_range generation before : ℕ) (to_blob : Bool) (q : ReqNo) (body : p.body ≡ bodies.Stream (Trim trimmed_range generation before to_blob q)) (no_user : is_user p.from ≡ false)
      (t : Trims b.stream trimmed_range generation before) where
    log_named : Names p b.stream trimmed_range (base_of (shorter before t.log)) (shorter before t.log).fence
    log_named = record {
      generation = generation;
      to_blob = to_blob;
      request = q;
      body = body ∙ ap (λ n. bodies.Stream (Trim trimmed_range generation n to_blob q)) (sym (shorter_base before t.log t.below));
      no_user = no_user;
      log = t.log;
      there = t.log_is;
      held = sym t.fence;
      under = omega (arith, t.fence);
    }

    trimmed_bases : Bases p b.stream (trimmed b.stream trimmed_range before to_blob)
    trimmed_bases range z =
        trimmed_elim b.stream trimmed_range generation before to_blob t (λ o. o ≡ Some z → BaseOf p b.stream range z) (log_name range)
        (λ k. absurd (let c = ap (λ (s : StreamName). s.kind) k in cc))
        (λ k is.
        let c : shorter before t.log ≡ z = cc in
        let same : trimmed_range ≡ range = ap (λ (s : StreamName). s.range) (sym k) in
        inr (inr (inl (subst (λ n. Names p b.stream n (base_of z) z.fence) same (subst (λ (x : Stream). Names p b.stream trimmed_range (base_of x) x.fence) c log_named)))))
        (λ is. same_bases range z is)

  trim_bases : (range generation before : ℕ) (to_blob : Bool) (q : ReqNo) → p.body ≡ bodies.Stream (Trim range generation before to_blob q) →
      Bases p b.stream (trim_rule b p range generation before to_blob q).after.stream
  trim_bases range generation before to_blob q body =
      if_elim (λ (o : Outcome Catalog). Bases p b.stream o.after.stream) (is_user p.from) (refused b Manager p q Stale) (trim_answered b p range before to_blob q (trimming b.stream range generation before))
      (λ t. same_bases) (λ f. by_answer f (trimming b.stream range generation before) refl)
    where
      by_answer : is_user p.from ≡ false → (r : Result Bool Refusal) → trimming b.stream range generation before ≡ r → Bases p b.stream (trim_answered b p range before to_blob q r).after.stream
      by_answer no_user (Err refusal) is = same_bases
      by_answer no_user (Ok false) is = same_bases
      by_answer no_user (Ok true) is = trimmed_bases range generation before to_blob q body no_user (trims b.stream range generation before is)

  -- ---- MultiModify

  module _ (list : List Modify) (q : ReqNo) (body : p.body ≡ bodies.Stream (MultiModify list q)) (no_user : is_user p.from ≡ false) where
    -- each log begins at 0, or where one of b began
    abbrev Through : Streams → Type 0
    Through streams = (range : ℕ) (z : Stream) → stream_of streams (log_name range) ≡ Some z →
        (base_of z ≡ 0) ⊎ ((through : List ℕ) × BuiltThrough through p b.stream range (base_of z) z.fence)

    joined_through : (streams : Streams) → Through streams → (m : Modify) → Contains list m → (range : ℕ) → m.stream ≡ log_name range → (sources : List Source) → m.sources ≡ sources →
        Each (Joins (sealed_lengths b) streams) sources → Each (λ s. s.stream.kind ≡ m.stream.kind) sources →
        (base_of (joined streams sources) ≡ 0) ⊎ ((through : List ℕ) × BuiltThrough through p b.stream range (base_of (joined streams sources)) (joined streams sources).fence)
    joined_through streams old m among range name [] are all kinds = inl refl
    joined_through streams old m among range name (s ∷ sources) are all kinds =
        let j = all.0 in
        let own : s.stream ≡ log_name s.stream.range = same_name s.stream (log_name s.stream.range) refl (kinds.0 ∙ ap (λ (n : StreamName). n.kind) name) in
        let base : base_of (joined streams (s ∷ sources)) ≡ base_of j.stream = ap (λ (es : List ℕ). length es) (joined_gone (sealed_lengths b) streams s sources j) in
        let first : s ≡ record { stream = log_name s.stream.range; generation = s.generation } = ap (λ (n : StreamName). record { stream = n; generation = s.generation }) own in
        elim (old s.stream.range j.stream (ap (stream_of streams) (sym own) ∙ j.there)) [
          | inl zero_is ↦ inl (base ∙ zero_is)
          | inr t ↦ inr (
            s.stream.range ∷ t.0,
            (
              record {
                list = list;
                request = q;
                body = body;
                no_user = no_user;
                entry = m;
                among = among;
                name = name;
                generation = s.generation;
                others = sources;
                sources = are ∙ ap (λ (x : Source). x ∷ sources) first;
                under = first_under s sources;
              },
              subst (λ n. BuiltThrough t.0 p b.stream s.stream.range n s.generation) (sym base) (subst (BuiltThrough t.0 p b.stream s.stream.range (base_of j.stream)) j.fence t.1),
            ),
          )
        ]

    built_through : (streams : Streams) (m : Modify) → IsOfOneKind m × Contains list m → Builds (sealed_lengths b) streams m → Through streams → Through (built streams m)
    built_through streams m of builds old range z =
        with_stream_elim (λ o. o ≡ Some z → (base_of z ≡ 0) ⊎ ((through : List ℕ) × BuiltThrough through p b.stream range (base_of z) z.fence)) streams m.stream (joined streams m.sources) (log_name range)
        (λ k is. let c : joined streams m.sources ≡ z = cc in
        subst (λ (x : Stream). (base_of x ≡ 0) ⊎ ((through : List ℕ) × BuiltThrough through p b.stream range (base_of x) x.fence)) c
        (joined_through streams old m of.1 range (sym k) m.sources refl builds.sources of.0))
        (λ is. old range z is)

    modified_bases : are_of_one_kind list ≡ true → BuildsAll (sealed_lengths b) b.stream list → Bases p b.stream (modified b.stream list)
    modified_bases kinds all range z there =
        let old : Through b.stream = λ r x is. inr ([], (x, is, refl, refl)) in
        elim (all_built (sealed_lengths b) Through (λ m. IsOfOneKind m × Contains list m) built_through list b.stream (entries_of list kinds) all old range z there) [
          | inl zero_is ↦ inl zero_is
          | inr t ↦ inr (inr (inr t))
        ]

  modify_bases : (list : List Modify) (q : ReqNo) → p.body ≡ bodies.Stream (MultiModify list q) → are_of_one_kind list ≡ true → (o : Option Refusal) → modify_refusal b p list ≡ o →
      Bases p b.stream (or_refused b Manager p q o (modify_taken b p list q)).after.stream
  modify_bases list q body kinds (Some refusal) is = same_bases
  modify_bases list q body kinds None is = let (no_user, all) = builds_of b p list is in modified_bases list q body no_user kinds all

  -- ---- all rules

  module _ (kinds : (list : List Modify) (q : ReqNo) → p.body ≡ bodies.Stream (MultiModify list q) → are_of_one_kind list ≡ true) where
    stream_bases : (body : StreamBody) → p.body ≡ bodies.Stream body → Bases p b.stream (stream_body_rule b p body).after.stream
    stream_bases (CreateStream s fence q) is = created_bases s (generation_of p.from fence) q (create_refusal b p s)
    stream_bases (OpenStreams range generation q) is = opened_bases range generation q (open_refusal b p range generation)
    stream_bases (Confirm range generation q) is = confirmed_bases q (confirm_refusal b p range generation)
    stream_bases (Extend s generation last pick q) is = extend_bases s (generation_of p.from generation) last pick q
    stream_bases (Trim range generation before to_blob q) is = trim_bases range generation before to_blob q is
    stream_bases (MultiModify list q) is = modify_bases list q is (kinds list q is) (modify_refusal b p list) refl
    stream_bases body is = same_bases

    rule_bases : (body : Body) → p.body ≡ body → Bases p b.stream (manager_rule b p body).after.stream
    rule_bases (bodies.Stream body) is = stream_bases body is
    rule_bases (bodies.Seal body) is = subst (Bases p b.stream) (sym (seal_same b p body)) same_bases
    rule_bases body is = same_bases

-- ---- moves

module _ (w : StreamSystem) (asks : ServersAsk w.post) (move : Move) where
  -- the move brings such a Trim
  record Brings (range base fence : ℕ) : Type 0 where
    taken : Packet
    reaches : Reaches w move taken
    names : Names taken w.catalog.stream range base fence

  -- the move brings a MultiModify that builds the log
  record BringsBuilt (range base fence : ℕ) : Type 0 where
    taken : Packet
    reaches : Reaches w move taken
    through : List ℕ
    built : BuiltThrough through taken w.catalog.stream range base fence

  -- the list of a log begins at 0, where it began, where a Trim names it, or where the one began that it is built from
  abbrev BasesOn : StreamSystem → Type 0
  BasesOn v = (range : ℕ) (z : Stream) → stream_of v.catalog.stream (log_name range) ≡ Some z →
      (base_of z ≡ 0) ⊎ (BeganAt w.catalog.stream range (base_of z) ⊎ (Brings range (base_of z) z.fence ⊎ BringsBuilt range (base_of z) z.fence))

  bases_stay : BasesOn w
  bases_stay range z there = inr (inl (z, there, refl))

  -- the manager goes through a rule
  manager_on : (o : Outcome Catalog) → BasesOn (record w { catalog = o.after }) → BasesOn (manager_performs w o)
  manager_on o on =
      if_elim BasesOn (stops_in w.manager_cell o.written) _ _ (λ s. if_elim BasesOn (stands_in w.manager_cell) _ _ (λ t. on) (λ f. bases_stay)) (λ r. on)

  taken_on : (p : Packet) → Contains w.post p → Reaches w move p → BasesOn (record w { catalog = (manager_rule w.catalog p p.body).after })
  taken_on p stood reaches range z there = elim (rule_bases p w.catalog (λ list q is. (asks p list q stood is).1) p.body refl range z there) [
    | inl zero_is ↦ inl zero_is
    | inr more ↦ elim more [
      | inl began ↦ inr (inl began)
      | inr n ↦ elim n [
        | inl named ↦ inr (inr (inl (record { taken = p; reaches = reaches; names = named })))
        | inr t ↦ inr (inr (inr (record { taken = p; reaches = reaches; through = t.0; built = t.1 })))
      ]
    ]
  ]

  decided_on : (e : ℕ) → BasesOn (record w { catalog = (decide_rule w.catalog e (w.catalog.extent e)).after })
  decided_on e = subst (λ (s : Streams). BasesOn (record w { catalog = record w.catalog { stream = s } })) (sym (decide_same w.catalog e (w.catalog.extent e))) bases_stay

  node_on : (n : ℕ) (p : Packet) → BasesOn (node_takes w n p)
  node_on n p =
      let e = extent_of p.body in
      let o = node_rule n (w.replica n e) p p.body in
      if_elim BasesOn (w.cell n).up (node_performs w n e o) w
      (λ t. if_elim BasesOn (stops_in (w.cell n) o.written) _ _
      (λ s. if_elim BasesOn (stands_in (w.cell n)) _ _ (λ _. bases_stay) (λ _. bases_stay)) (λ r. bases_stay))
      (λ f. bases_stay)

  delivered_on : (number : ℕ) → move ≡ Happens (Deliver number) → (p : Packet) (to : ActorId) → p.to ≡ to → slice_get w.post number ≡ Some p → BasesOn (delivered w p to)
  delivered_on number moves p (Node n) to sent = node_on n p
  delivered_on number moves p Manager to sent =
      if_elim BasesOn w.manager_cell.up (manager_performs w (manager_rule w.catalog p p.body)) w
      (λ t. manager_on (manager_rule w.catalog p p.body) (taken_on p (contains_get w.post number p sent) (record { number = number; delivered = moves; sent = sent; to = to; up = t }))) (λ f. bases_stay)
  delivered_on number moves p Map to sent = bases_stay
  delivered_on number moves p (Server s) to sent = bases_stay
  delivered_on number moves p (User u) to sent = bases_stay

  delivered_if_on : (number : ℕ) → move ≡ Happens (Deliver number) → (o : Option Packet) → slice_get w.post number ≡ o → BasesOn (delivered_if w o)
  delivered_if_on number moves None is = bases_stay
  delivered_if_on number moves (Some p) is = delivered_on number moves p p.to refl is

  stop_on : (actor : ActorId) (call : ℕ) (keep : Bool) → BasesOn (stop w actor call keep)
  stop_on (Node n) call keep =
      if_elim BasesOn (w.cell n).up (node_stops w n call keep) w
      (λ t. if_elim BasesOn (call == 0) (node_halted w n) _ (λ _. bases_stay) (λ _. bases_stay)) (λ f. bases_stay)
  stop_on Manager call keep =
      if_elim BasesOn w.manager_cell.up (manager_stops w call keep) w
      (λ t. if_elim BasesOn (call == 0) (manager_halted w) _ (λ _. bases_stay) (λ _. bases_stay)) (λ f. bases_stay)
  stop_on Map call keep = bases_stay
  stop_on (Server s) call keep = bases_stay
  stop_on (User u) call keep = bases_stay

  restart_on : (actor : ActorId) → BasesOn (restart w actor)
  restart_on (Node n) = if_elim BasesOn ((w.cell n).up || not (is_present w n)) w _ (λ _. bases_stay) (λ _. bases_stay)
  restart_on Manager = if_elim BasesOn w.manager_cell.up w _ (λ _. bases_stay) (λ _. bases_stay)
  restart_on Map = bases_stay
  restart_on (Server s) = bases_stay
  restart_on (User u) = bases_stay

  happens_on : (event : Event) → move ≡ Happens event → BasesOn (happens w event)
  happens_on (Submit user to body) moves = if_elim BasesOn (is_request body) _ w (λ _. bases_stay) (λ _. bases_stay)
  happens_on (Deliver number) moves = delivered_if_on number moves (slice_get w.post number) refl
  happens_on (Stop actor call keep) moves = stop_on actor call keep
  happens_on (Restart actor) moves = restart_on actor
  happens_on (Decide e) moves =
      if_elim BasesOn w.manager_cell.up (manager_performs w (decide_rule w.catalog e (w.catalog.extent e))) w
      (λ t. manager_on (decide_rule w.catalog e (w.catalog.extent e)) (decided_on e)) (λ f. bases_stay)
  happens_on (GiveUp server range pick) moves = bases_stay
  happens_on (Assign range server until) moves = bases_stay
  happens_on (Renew range server until) moves = bases_stay
  happens_on (Moment now) moves = bases_stay
  happens_on (Checkpoint server range combine) moves = bases_stay
  happens_on (Split server range key) moves = bases_stay
  happens_on (Merge server left right) moves = bases_stay

moved_on : (w : StreamSystem) (asks : ServersAsk w.post) (move : Move) → BasesOn w asks move (moved w move)
moved_on w asks (Happens event) = happens_on w asks (Happens event) event refl
moved_on w asks (Asks server to body) =
    let move = Asks server to body in
    if_elim (BasesOn w asks move) (is_server_call body) _ w (λ _. bases_stay w asks move) (λ _. bases_stay w asks move)
moved_on w asks (Says from to body) =
    let move = Says from to body in
    if_elim (BasesOn w asks move) (is_told body) _ w (λ _. bases_stay w asks move) (λ _. bases_stay w asks move)
moved_on w asks (Observes note) =
    let move = Observes note in
    if_elim (BasesOn w asks move) (is_table_note note) _ w (λ _. bases_stay w asks move) (λ _. bases_stay w asks move)

-- ---- runs

module _ (w : StreamSystem) (asks : ServersAsk w.post) where
  -- what a Trim named stays named
  trimmed_later : (moves : List Move) (move : Move) (range base fence later : ℕ) → fence ≤ later → TrimmedBy moves w range base fence → TrimmedBy (moves ++ move ∷ []) w range base later
  trimmed_later moves move range base fence later rises t = record {
    from = t.from;
    no_user = t.no_user;
    generation = t.generation;
    to_blob = t.to_blob;
    request = t.request;
    asked = rw (run_moves_push moves move w) (post_stays (move ∷ []) (run_moves moves w) _ t.asked);
    past = t.past;
    trimming = t.trimming;
    rest = t.rest ++ move ∷ [];
    split = ap (λ (xs : List Move). xs ++ move ∷ []) t.split ∙ append_assoc t.past (t.trimming ∷ t.rest) (move ∷ []);
    reaches = t.reaches;
    log = t.log;
    there = t.there;
    held = t.held;
    under = omega (arith, t.under, rises);
  }

  -- what the next move names
  trimmed_now : (moves : List Move) (move : Move) (range base fence : ℕ) → Brings (run_moves moves w) (run_asks moves w asks) move range base fence → TrimmedBy (moves ++ move ∷ []) w range base fence
  trimmed_now moves move range base fence k =
      let n = k.names in
      let same : k.taken ≡ packet k.taken.from Manager (bodies.Stream (Trim range n.generation base n.to_blob n.request)) =
      same_packet k.taken k.taken.from Manager (bodies.Stream (Trim range n.generation base n.to_blob n.request)) refl k.reaches.to n.body in
      let stood = subst (Contains (run_moves moves w).post) same (contains_get (run_moves moves w).post k.reaches.number k.taken k.reaches.sent) in
      record {
        from = k.taken.from;
        no_user = n.no_user;
        generation = n.generation;
        to_blob = n.to_blob;
        request = n.request;
        asked = rw (run_moves_push moves move w) (post_stays (move ∷ []) (run_moves moves w) _ stood);
        past = moves;
        trimming = move;
        rest = [];
        split = refl;
        reaches = subst (Reaches (run_moves moves w) move) same k.reaches;
        log = n.log;
        there = n.there;
        held = n.held;
        under = n.under;
      }

  named_later : (through : List ℕ) (moves : List Move) (move : Move) (range base fence later : ℕ) → fence ≤ later → NamedThrough through moves w range base fence →
      NamedThrough through (moves ++ move ∷ []) w range base later
  named_later [] moves move range base fence later rises t = trimmed_later moves move range base fence later rises t
  named_later (source ∷ through) moves move range base fence later rises (b, t) = (
    record {
      from = b.from;
      no_user = b.no_user;
      list = b.list;
      request = b.request;
      asked = rw (run_moves_push moves move w) (post_stays (move ∷ []) (run_moves moves w) _ b.asked);
      past = b.past;
      building = b.building;
      rest = b.rest ++ move ∷ [];
      split = ap (λ (xs : List Move). xs ++ move ∷ []) b.split ∙ append_assoc b.past (b.building ∷ b.rest) (move ∷ []);
      reaches = b.reaches;
      entry = b.entry;
      among = b.among;
      name = b.name;
      generation = b.generation;
      others = b.others;
      sources = b.sources;
      under = omega (arith, b.under, rises);
    },
    t,
  )

  -- what the next move builds
  built_now : (moves : List Move) (move : Move) (taken : Packet) → Reaches (run_moves moves w) move taken → (range source fence : ℕ) → (n : BuildsLog taken range source fence) →
      (b : BuiltBy (moves ++ move ∷ []) w range source fence) × (b.past ++ b.building ∷ [] ≡ moves ++ move ∷ []) × (b.generation ≡ n.generation)
  built_now moves move taken reaches range source fence n =
      let body = bodies.Stream (MultiModify n.list n.request) in
      let same : taken ≡ packet taken.from Manager body = same_packet taken taken.from Manager body refl reaches.to n.body in
      let stood = subst (Contains (run_moves moves w).post) same (contains_get (run_moves moves w).post reaches.number taken reaches.sent) in (
        record {
          from = taken.from;
          no_user = n.no_user;
          list = n.list;
          request = n.request;
          asked = rw (run_moves_push moves move w) (post_stays (move ∷ []) (run_moves moves w) _ stood);
          past = moves;
          building = move;
          rest = [];
          split = refl;
          reaches = subst (Reaches (run_moves moves w) move) same reaches;
          entry = n.entry;
          among = n.among;
          name = n.name;
          generation = n.generation;
          others = n.others;
          sources = n.sources;
          under = n.under;
        },
        refl,
        refl,
      )

  module _ (moves : List Move) (move : Move) (old : BasesTrimmed moves w) where
    abbrev IsNamed : ℕ → ℕ → ℕ → Type 0
    IsNamed range base fence = (base ≡ 0) ⊎ ((through : List ℕ) × NamedThrough through (moves ++ move ∷ []) w range base fence)

    -- a log that is there, where its fence is this at most
    old_named : (range : ℕ) (x : Stream) → stream_of (run_moves moves w).catalog.stream (log_name range) ≡ Some x → (base fence : ℕ) → base ≡ base_of x → x.fence ≤ fence → IsNamed range base fence
    old_named range x there base fence same low = elim (old range x there) [
      | inl zero_is ↦ inl (same ∙ zero_is)
      | inr t ↦ inr (t.0, named_later t.0 moves move range base x.fence fence low (subst (λ n. NamedThrough t.0 moves w range n x.fence) (sym same) t.1))
    ]

    built_named : (taken : Packet) → Reaches (run_moves moves w) move taken → (through : List ℕ) (range base fence : ℕ) →
        BuiltThrough through taken (run_moves moves w).catalog.stream range base fence → IsNamed range base fence
    built_named taken reaches [] range base fence (x, there, same, held) = old_named range x there base fence same (omega (arith, held))
    built_named taken reaches (source ∷ through) range base fence (n, t) =
        let (b, past, generation) = built_now moves move taken reaches range source fence n in
        elim (built_named taken reaches through source base n.generation t) [
          | inl zero_is ↦ inl zero_is
          | inr k ↦ inr (
            source ∷ k.0,
            (
              b,
              subst (λ (xs : List Move). NamedThrough k.0 xs w source base b.generation) (sym past) (subst (NamedThrough k.0 (moves ++ move ∷ []) w source base) (sym generation) k.1),
            ),
          )
        ]

    next_bases : BasesTrimmed (moves ++ move ∷ []) w
    next_bases range z there =
        let v : StreamSystem = run_moves moves w in
        let here : stream_of (moved v move).catalog.stream (log_name range) ≡ Some z = subst (λ (u : StreamSystem). stream_of u.catalog.stream (log_name range) ≡ Some z) (run_moves_push moves move w) there in
        elim (moved_on v (run_asks moves w asks) move range z here) [
          | inl zero_is ↦ inl zero_is
          | inr more ↦ elim more [
            | inl began ↦
                let risen = run_rises (move ∷ []) v (log_name range) began.0 began.1 in
                let same : risen.now ≡ z = (let d : Some risen.now ≡ Some z = sym risen.is ∙ here in cc) in
                old_named range began.0 began.1 (base_of z) z.fence began.2 (omega (arith, risen.fence, ap (λ (u : Stream). u.fence) same))
            | inr k ↦ elim k [
              | inl n ↦ inr ([], trimmed_now moves move range (base_of z) z.fence n)
              | inr n ↦ built_named n.taken n.reaches n.through range (base_of z) z.fence n.built
            ]
          ]
        ]

  run_bases : (past moves : List Move) → BasesTrimmed past w → BasesTrimmed (past ++ moves) w
  run_bases past [] old = subst (λ (xs : List Move). BasesTrimmed xs w) (sym (append-nil past)) old
  run_bases past (move ∷ moves) old = subst (λ (xs : List Move). BasesTrimmed xs w) (append_assoc past (move ∷ []) moves) (run_bases (past ++ move ∷ []) moves (next_bases past move old))

-- at first the logs have their first index
pub bases_trimmed : (nodes target : ℕ) (moves : List Move) → BasesTrimmed moves (start nodes target)
bases_trimmed nodes target moves = run_bases (start nodes target) (none_asked nodes target) [] moves (λ range z.
    if_elim (λ o. o ≡ Some z → (base_of z ≡ 0) ⊎ ((through : List ℕ) × NamedThrough through [] (start nodes target) range (base_of z) z.fence)) ((range == 1) && nat_le 1 3) (Some (empty_stream 0)) None
    (λ t there. let c : empty_stream 0 ≡ z = cc in inl (ap base_of (sym c))) (λ t there. absurd cc))
