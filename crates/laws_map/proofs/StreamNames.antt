-- What happens in the stream layer leaves each stream under a generation of its range that is known.
use Rattle.std.proofs.Common.{◌≡◌, ℕ, max, Bool, true, false, not, ◌&&◌, ◌||◌, ◌==◌, nat_lt, List, [], ◌∷◌, ◌++◌, Option, Some, None, Result, Ok, Err, slice_get, Contains, refl, sym, ap, ◌∙◌, subst, inl, inr, eqb-true, arith, if◌then◌else◌}
use Rattle.std.proofs.lemmas.Bool.{and_parts}
use Rattle.std.proofs.lemmas.Option.{same_Some}
use Rattle.std.proofs.lemmas.List.Elements.{Contains-append_cases}
use Rattle.block_types.specs.declared.record.Nodes.{Nodes}
use Rattle.wire.specs.declared.actor.ActorId.{ActorId}
use Rattle.wire.specs.declared.actor.ActorId.TheVariants.{Node, Manager, Map, Server, User}
use Rattle.wire.specs.declared.actor.ReqNo.{ReqNo}
use Rattle.wire.specs.declared.body.SealBody.{SealBody}
use Rattle.wire.specs.declared.body.StreamBody.{StreamBody}
use Rattle.wire.specs.declared.body.StreamBody.TheVariants as streams
use Rattle.wire.specs.declared.body.Body.{Body}
use Rattle.wire.specs.declared.body.Body.TheVariants as bodies
use Rattle.wire.specs.declared.note.Note.{Note}
use Rattle.wire.specs.declared.packet.Packet.{Packet}
use Rattle.wire.specs.declared.refusal.Refusal.{Refusal}
use Rattle.wire.specs.declared.refusal.Refusal.TheVariants.{Stale, BadPick, NoSuchStream, NameTaken}
use Rattle.wire.specs.declared.streams.Modify.{Modify}
use Rattle.wire.specs.declared.streams.StreamName.{StreamName}
use Rattle.streams.specs.Streams.{Stream, Streams, stream_of, with_stream, kind_number, fenced_at, opened, longer, extended_if, trimmed_if, shorter, log_name, blob_data_name, with_extents, leaving, joined, greatest_generation, modified, extending, trimming, create_fault, has_four, all_pass, modify_fault}
use Rattle.model_streams.specs.declared.event.Event.{Event}
use Rattle.model_streams.specs.declared.event.Event.TheVariants.{Submit, Deliver, Stop, Restart, Decide, GiveUp, Assign, Renew, Moment, Checkpoint, Split, Merge}
use Rattle.model_streams.specs.declared.extent.Extent.{Extent}
use Rattle.model_streams.specs.Actors.{is_user, generation_of}
use Rattle.model_streams.specs.Manager as catalog
use Rattle.model_streams.specs.Manager.{Catalog, is_there, is_foreign}
use Rattle.model_streams.specs.Node as table
use Rattle.model_streams.specs.Node.{Replica}
use Rattle.model_streams.specs.Outcome.{Outcome, packet, refused, or_refused}
use Rattle.model_streams.specs.StreamSystem.{StreamSystem, stops_in, stands_in, node_halted, node_performs, manager_halted, manager_performs, sent_more, delivered, delivered_if, is_request, node_stops, manager_stops, stop, is_present, restart, happens}
use Rattle.model_streams.proofs.Tests.{if_elim, none_met}
use Rattle.model_partition.specs.declared.split_job.SplitJob.{SplitJob}
use Rattle.model_partition.specs.Splits.{all_streams}
use Rattle.laws_streams.proofs.Choices.{each-contains, contains_get, contains_pushed}
use Rattle.laws_streams.proofs.KeptStreams.{seal_same, decide_same}
use Rattle.laws_streams.proofs.ManagerAnswers as manager
use Rattle.laws_streams.proofs.NodeAnswers as node
use Rattle.laws_streams.proofs.DecisionAnswers as decision
use Rattle.laws_map.specs.Naming.{Each, Knowledge, IsBuilt, BodyNames, StreamNames, PacketNames, CatalogNames}
use Rattle.laws_map.proofs.SplitNames.{Laws}

module _ (K : Knowledge) where
  -- ---- streams

  abbrev StreamsKnown : Streams → Type 0
  StreamsKnown ss = (range kind : ℕ) (x : Stream) → ss range kind ≡ Some x → K.knows range x.fence

  with_known : (ss : Streams) (s : StreamName) (x : Stream) → StreamsKnown ss → K.knows s.range x.fence → StreamsKnown (with_stream ss s x)
  with_known ss s x all k range kind y is = go ((range == s.range) && (kind == kind_number s.kind)) refl is
    where
      go : (b : Bool) → ((range == s.range) && (kind == kind_number s.kind)) ≡ b → (if b then Some x else ss range kind) ≡ Some y → K.knows range y.fence
      go true e is =
          let same : range ≡ s.range = eqb-true range s.range (and_parts (range == s.range) (kind == kind_number s.kind) e).0 in
          subst (λ (z : Stream). K.knows range z.fence) (same_Some x y is) (subst (λ n. K.knows n x.fence) (sym same) k)
      go false e is = all range kind y is

  opened_known : (ss : Streams) (n g : ℕ) → StreamsKnown ss → K.knows n g → StreamsKnown (opened ss n g)
  opened_known ss n g all k range kind y is = go (range == n) refl is
    where
      fenced : (o : Option Stream) → fenced_at g o ≡ Some y → y.fence ≡ g
      fenced None is = absurd cc
      fenced (Some x) is = sym (ap (λ (z : Stream). z.fence) (same_Some (record x { fence = g }) y is))

      go : (b : Bool) → (range == n) ≡ b → (if b then fenced_at g (ss range kind) else ss range kind) ≡ Some y → K.knows range y.fence
      go true e is = subst (λ f. K.knows range f) (sym (fenced (ss range kind) is)) (subst (λ m. K.knows m g) (sym (eqb-true range n e)) k)
      go false e is = all range kind y is

  extended_known : (ss : Streams) (s : StreamName) (e : ℕ) (o : Option Stream) → stream_of ss s ≡ o → StreamsKnown ss → StreamsKnown (extended_if ss s e o)
  extended_known ss s e None is all = all
  extended_known ss s e (Some x) is all = with_known ss s (longer e x) all (all s.range (kind_number s.kind) x is)

  trimmed_known : (ss : Streams) (range before : ℕ) (to_blob : Bool) (log blob : Option Stream) → ss range 1 ≡ log → ss range 3 ≡ blob → StreamsKnown ss → StreamsKnown (trimmed_if ss range before to_blob log blob)
  trimmed_known ss range before to_blob None blob is has all = all
  trimmed_known ss range before to_blob (Some log) None is has all = all
  trimmed_known ss range before to_blob (Some log) (Some blob) is has all =
      with_known _ (blob_data_name range) _ (with_known ss (log_name range) (shorter before log) all (all range 1 log is))
      (if_elim (λ (x : Stream). K.knows range x.fence) to_blob (with_extents (leaving before log) blob) blob (λ t. all range 3 blob has) (λ f. all range 3 blob has))

  abbrev Builds : Modify → Type 0
  Builds m = K.knows m.stream.range (greatest_generation m.sources)

  modified_known : (ss : Streams) (list : List Modify) → Each Builds list → StreamsKnown ss → StreamsKnown (modified ss list)
  modified_known ss [] b all = all
  modified_known ss (m ∷ list) b all = modified_known (with_stream ss m.stream (joined ss m.sources)) list b.1 (with_known ss m.stream (joined ss m.sources) all b.0)

  -- what its packets and its manager name is known
  pub record LayerNames (w : StreamSystem) : Type 0 where
    pub post : (p : Packet) → Contains w.post p → PacketNames K p
    pub catalog : CatalogNames K w.catalog

  abbrev AreKnown : List Packet → Type 0
  AreKnown packets = (p : Packet) → Contains packets p → PacketNames K p

  pub more_known : (xs ys : List Packet) → AreKnown xs → AreKnown ys → AreKnown (xs ++ ys)
  more_known xs ys a b p there = elim (Contains-append_cases xs ys p there) [ inl old ↦ a p old | inr new ↦ b p new ]

  none_known : AreKnown []
  none_known p there = absurd (let less = there.1 in omega (arith, less))

  module _ (laws : Laws K) where
    -- the streams of both ranges of a split are built under its generation
    all_built : (job : SplitJob) → K.splits job.range job.generation job.key job.low job.high → Each Builds (all_streams job)
    all_built job s =
        let same : job.generation ≡ max job.generation 0 = grind arith in
        let lo : K.knows job.low (max job.generation 0) = subst (λ g. K.knows job.low g) same (laws.low job.range job.generation job.key job.low job.high s) in
        let hi : K.knows job.high (max job.generation 0) = subst (λ g. K.knows job.high g) same (laws.high job.range job.generation job.key job.low job.high s) in
        (lo, (lo, (lo, (lo, (hi, (hi, (hi, (hi, tt))))))))

    built_known : (ss : Streams) (list : List Modify) → IsBuilt K list → StreamsKnown ss → StreamsKnown (modified ss list)
    built_known ss list b all = modified_known ss list (subst (Each Builds) (sym b.is) (all_built b.job b.split)) all

    -- ---- the rules of the manager

    abbrev Known : Outcome Catalog → Type 0
    Known o = CatalogNames K o.after

    unless_known : (b : Catalog) (p : Packet) (q : ReqNo) (x : Option Refusal) (o : Outcome Catalog) → CatalogNames K b → (x ≡ None → Known o) → Known (or_refused b Manager p q x o)
    unless_known b p q (Some refusal) o all known = all
    unless_known b p q None o all known = known refl

    -- a packet of another than a user names what is known
    not_user : (p : Packet) → is_user p.from ≡ false → PacketNames K p → BodyNames K p.body
    not_user p none (inl asks) = absurd (let z : true ≡ false = sym asks.0 ∙ none in cc)
    not_user p none (inr names) = names

    module _ (zero_known : K.knows 0 0) (b : Catalog) (all : CatalogNames K b) (p : Packet) (names : PacketNames K p) where
      names_as : (body : Body) → p.body ≡ body → is_user p.from ≡ false → BodyNames K body
      names_as body is none = subst (BodyNames K) is (not_user p none names)

      -- a user has the streams of range 0, under generation 0
      create_names : (s : StreamName) (fence : ℕ) (q : ReqNo) → p.body ≡ bodies.Stream (streams.CreateStream s fence q) → is_foreign p.from s.range ≡ false → (from : ActorId) → p.from ≡ from → K.knows s.range (generation_of from fence)
      create_names s fence q is own (User u) from =
          let zero : not (s.range == 0) ≡ false = subst (λ (a : ActorId). (is_user a && not (s.range == 0)) ≡ false) from own in
          subst (λ n. K.knows n 0) (sym (is_zero (s.range == 0) refl zero)) zero_known
        where
          is_zero : (t : Bool) → (s.range == 0) ≡ t → not t ≡ false → s.range ≡ 0
          is_zero true e f = eqb-true s.range 0 e
          is_zero false e f = absurd cc
      create_names s fence q is own (Node n) from = names_as (bodies.Stream (streams.CreateStream s fence q)) is (ap is_user from)
      create_names s fence q is own Manager from = names_as (bodies.Stream (streams.CreateStream s fence q)) is (ap is_user from)
      create_names s fence q is own Map from = names_as (bodies.Stream (streams.CreateStream s fence q)) is (ap is_user from)
      create_names s fence q is own (Server n) from = names_as (bodies.Stream (streams.CreateStream s fence q)) is (ap is_user from)

      create_known : (s : StreamName) (fence : ℕ) (q : ReqNo) → p.body ≡ bodies.Stream (streams.CreateStream s fence q) → Known (catalog.create_rule b p s (generation_of p.from fence) q)
      create_known s fence q is =
          unless_known b p q (catalog.create_refusal b p s) _ all
          (λ none. with_known b.stream s _ all (create_names s fence q is (none_met ((Stale, is_foreign p.from s.range) ∷ (NameTaken, is_there (create_fault b.stream s)) ∷ []) none).0 p.from refl))

      open_known : (range generation : ℕ) (q : ReqNo) → p.body ≡ bodies.Stream (streams.OpenStreams range generation q) → Known (catalog.open_rule b p range generation q)
      open_known range generation q is =
          unless_known b p q (catalog.open_refusal b p range generation) _ all
          (λ none. opened_known b.stream range generation all
          (names_as (bodies.Stream (streams.OpenStreams range generation q)) is
          (none_met ((Stale, is_user p.from) ∷ (NoSuchStream, not (has_four b.stream range)) ∷ (Stale, not (all_pass (λ x. nat_lt x.fence generation) b.stream range)) ∷ []) none).0))

      last_known : (e : ℕ) (o : Option Extent) (q : ReqNo) → Known (catalog.last_told b p e o q)
      last_known e None q = all
      last_known e (Some x) q = all

      answered_known : (s : StreamName) (generation : ℕ) (pick : Nodes) (q : ReqNo) (x : Result (Option ℕ) Refusal) → Known (catalog.extend_answered b p s generation pick q x)
      answered_known s generation pick q (Err refusal) = all
      answered_known s generation pick q (Ok None) =
          if_elim Known (catalog.is_pick b.nodes pick) (catalog.extend_made b p s generation pick q) (refused b Manager p q BadPick)
          (λ t. extended_known b.stream s _ (stream_of b.stream s) refl all) (λ t. all)
      answered_known s generation pick q (Ok (Some e)) = last_known e (b.extent e) q

      extend_known : (s : StreamName) (generation : ℕ) (last : Option ℕ) (pick : Nodes) (q : ReqNo) → Known (catalog.extend_rule b p s generation last pick q)
      extend_known s generation last pick q =
          let x = extending (catalog.sealed_lengths b) (stream_of b.stream s) generation last in
          if_elim Known (is_foreign p.from s.range) (refused b Manager p q Stale) (catalog.extend_answered b p s generation pick q x)
          (λ t. all) (λ t. answered_known s generation pick q x)

      trim_known : (range generation before : ℕ) (to_blob : Bool) (q : ReqNo) → Known (catalog.trim_rule b p range generation before to_blob q)
      trim_known range generation before to_blob q =
          if_elim Known (is_user p.from) (refused b Manager p q Stale) (catalog.trim_answered b p range before to_blob q (trimming b.stream range generation before))
          (λ t. all) (λ t. by_answer (trimming b.stream range generation before))
        where
          by_answer : (x : Result Bool Refusal) → Known (catalog.trim_answered b p range before to_blob q x)
          by_answer (Err refusal) = all
          by_answer (Ok false) = all
          by_answer (Ok true) = trimmed_known b.stream range before to_blob (b.stream range 1) (b.stream range 3) refl refl all

      modify_known : (list : List Modify) (q : ReqNo) → p.body ≡ bodies.Stream (streams.MultiModify list q) → Known (catalog.modify_rule b p list q)
      modify_known list q is =
          unless_known b p q (catalog.modify_refusal b p list) _ all
          (λ none. built_known b.stream list (names_as (bodies.Stream (streams.MultiModify list q)) is (own (is_user p.from) refl none)) all)
        where
          own : (u : Bool) → is_user p.from ≡ u → (if u then Some Stale else modify_fault (catalog.sealed_lengths b) b.stream list) ≡ None → is_user p.from ≡ false
          own true e none = absurd cc
          own false e none = e

      stream_body_known : (body : StreamBody) → p.body ≡ bodies.Stream body → Known (catalog.stream_body_rule b p body)
      stream_body_known (streams.CreateStream s fence q) is = create_known s fence q is
      stream_body_known (streams.OpenStreams range generation q) is = open_known range generation q is
      stream_body_known (streams.Confirm range generation q) is = unless_known b p q (catalog.confirm_refusal b p range generation) _ all (λ none. all)
      stream_body_known (streams.Extend s generation last pick q) is = extend_known s (generation_of p.from generation) last pick q
      stream_body_known (streams.Trim range generation before to_blob q) is = trim_known range generation before to_blob q
      stream_body_known (streams.MultiModify list q) is = modify_known list q is
      stream_body_known body is = all

      seal_body_known : (body : SealBody) → Known (catalog.seal_body_rule b p body)
      seal_body_known body = subst StreamsKnown (sym (seal_same b p body)) all

      manager_known : (body : Body) → p.body ≡ body → Known (catalog.manager_rule b p body)
      manager_known (bodies.Stream body) is = stream_body_known body is
      manager_known (bodies.Seal body) is = seal_body_known body
      manager_known body is = all

    -- ---- what nodes and the manager tell

    node_tells : (s : Option Replica) (k : ℕ) (taken : Packet) (notes : List Note) (to : ActorId) (body : Body) → node.BodyTells s k taken notes to body → BodyNames K body
    node_tells s k taken notes to (bodies.Stream body) tells = absurd tells
    node_tells s k taken notes to (bodies.Map body) tells = absurd tells
    node_tells s k taken notes to body tells = tt

    stream_tells : (b : Catalog) (taken : Packet) (to : ActorId) (body : StreamBody) → manager.StreamTells b taken to body → StreamNames K body
    stream_tells b taken to (streams.CreateStream s fence q) tells = absurd tells
    stream_tells b taken to (streams.OpenStreams range generation q) tells = absurd tells
    stream_tells b taken to (streams.Confirm range generation q) tells = absurd tells
    stream_tells b taken to (streams.Extend s generation last pick q) tells = absurd tells
    stream_tells b taken to (streams.Trim range generation before to_blob q) tells = absurd tells
    stream_tells b taken to (streams.MultiModify list q) tells = absurd tells
    stream_tells b taken to body tells = tt

    manager_tells : (b : Catalog) (taken : Packet) (to : ActorId) (body : Body) → manager.BodyTells b taken to body → BodyNames K body
    manager_tells b taken to (bodies.Stream body) tells = stream_tells b taken to body tells
    manager_tells b taken to (bodies.Map body) tells = absurd tells
    manager_tells b taken to body tells = tt

    decision_tells : (b : Catalog) (e : ℕ) (after : Catalog) (to : ActorId) (body : Body) → decision.BodyTells b e after to body → BodyNames K body
    decision_tells b e after to (bodies.Stream body) tells = absurd tells
    decision_tells b e after to (bodies.Map body) tells = absurd tells
    decision_tells b e after to body tells = tt

    -- ---- one event

    node_does : (w : StreamSystem) (n e : ℕ) (o : Outcome (Option Replica)) → AreKnown o.packets → LayerNames w → LayerNames (node_performs w n e o)
    node_does w n e o told l =
        if_elim LayerNames (stops_in (w.cell n) o.written) _ _
        (λ s. if_elim LayerNames (stands_in (w.cell n)) _ _
        (λ t. record { post = more_known w.post [] l.post none_known; catalog = l.catalog })
        (λ t. record { post = l.post; catalog = l.catalog }))
        (λ s. record { post = more_known w.post o.packets l.post told; catalog = l.catalog })

    manager_does : (w : StreamSystem) (o : Outcome Catalog) → AreKnown o.packets → Known o → LayerNames w → LayerNames (manager_performs w o)
    manager_does w o told known l =
        if_elim LayerNames (stops_in w.manager_cell o.written) _ _
        (λ s. if_elim LayerNames (stands_in w.manager_cell) _ _
        (λ t. record { post = more_known w.post [] l.post none_known; catalog = known })
        (λ t. record { post = l.post; catalog = l.catalog }))
        (λ s. record { post = more_known w.post o.packets l.post told; catalog = known })

    module _ (zero_known : K.knows 0 0) where
      delivered_names : (w : StreamSystem) (p : Packet) (to : ActorId) → PacketNames K p → LayerNames w → LayerNames (delivered w p to)
      delivered_names w p (Node n) names l =
          let e = table.extent_of p.body in
          let o = table.node_rule n (w.replica n e) p p.body in
          if_elim LayerNames (w.cell n).up (node_performs w n e o) w
          (λ up. node_does w n e o
          (λ x there. inr (node_tells (w.replica n e) e p o.notes x.to x.body (each-contains (node.NodeTells n (w.replica n e) e p o.notes) o.packets x (node.node_tells n (w.replica n e) p) there).1)) l)
          (λ up. l)
      delivered_names w p Manager names l =
          let o = catalog.manager_rule w.catalog p p.body in
          if_elim LayerNames w.manager_cell.up (manager_performs w o) w
          (λ up. manager_does w o
          (λ x there. inr (manager_tells w.catalog p x.to x.body (each-contains (manager.ManagerTells w.catalog p) o.packets x (manager.manager_tells w.catalog p) there).1))
          (manager_known zero_known w.catalog l.catalog p names p.body refl) l)
          (λ up. l)
      delivered_names w p Map names l = l
      delivered_names w p (Server s) names l = l
      delivered_names w p (User u) names l = l

      pub delivered_if_names : (w : StreamSystem) (number : ℕ) (o : Option Packet) → slice_get w.post number ≡ o → LayerNames w → LayerNames (delivered_if w o)
      delivered_if_names w number None is l = l
      delivered_if_names w number (Some p) is l = delivered_names w p p.to (l.post p (contains_get w.post number p is)) l

      stop_names : (w : StreamSystem) (actor : ActorId) (call : ℕ) (keep : Bool) → LayerNames w → LayerNames (stop w actor call keep)
      stop_names w (Node n) call keep l =
          if_elim LayerNames (w.cell n).up (node_stops w n call keep) w
          (λ t. if_elim LayerNames (call == 0) (node_halted w n) _ (λ z. record { post = l.post; catalog = l.catalog }) (λ z. record { post = l.post; catalog = l.catalog }))
          (λ t. l)
      stop_names w Manager call keep l =
          if_elim LayerNames w.manager_cell.up (manager_stops w call keep) w
          (λ t. if_elim LayerNames (call == 0) (manager_halted w) _ (λ z. record { post = l.post; catalog = l.catalog }) (λ z. record { post = l.post; catalog = l.catalog }))
          (λ t. l)
      stop_names w Map call keep l = l
      stop_names w (Server s) call keep l = l
      stop_names w (User u) call keep l = l

      restart_names : (w : StreamSystem) (actor : ActorId) → LayerNames w → LayerNames (restart w actor)
      restart_names w (Node n) l =
          if_elim LayerNames ((w.cell n).up || not (is_present w n)) w _ (λ t. l) (λ t. record { post = l.post; catalog = l.catalog })
      restart_names w Manager l = if_elim LayerNames w.manager_cell.up w _ (λ t. l) (λ t. record { post = l.post; catalog = l.catalog })
      restart_names w Map l = l
      restart_names w (Server s) l = l
      restart_names w (User u) l = l

      submit_names : (w : StreamSystem) (user : ℕ) (to : ActorId) (body : Body) → is_request body ≡ true → LayerNames w → LayerNames (sent_more w (packet (User user) to body ∷ []))
      submit_names w user to body asked l = record {
        post = λ p there. elim (contains_pushed w.post (packet (User user) to body) p there) [
          | inl old ↦ l.post p old
          | inr same ↦ subst (PacketNames K) (sym same) (inl (refl, asked))
        ];
        catalog = l.catalog;
      }

      pub happens_names : (w : StreamSystem) (event : Event) → LayerNames w → LayerNames (happens w event)
      happens_names w (Submit user to body) l = if_elim LayerNames (is_request body) _ w (λ t. submit_names w user to body t l) (λ t. l)
      happens_names w (Deliver number) l = delivered_if_names w number (slice_get w.post number) refl l
      happens_names w (Stop actor call keep) l = stop_names w actor call keep l
      happens_names w (Restart actor) l = restart_names w actor l
      happens_names w (Decide e) l =
          let o = catalog.decide_rule w.catalog e (w.catalog.extent e) in
          if_elim LayerNames w.manager_cell.up (manager_performs w o) w
          (λ up. manager_does w o
          (λ x there. inr (decision_tells w.catalog e o.after x.to x.body (each-contains (decision.DecisionTells w.catalog e o.after) o.packets x (decision.decision_tells w.catalog e) there).1))
          (subst StreamsKnown (sym (decide_same w.catalog e (w.catalog.extent e))) l.catalog) l)
          (λ up. l)
      happens_names w (GiveUp server range pick) l = l
      happens_names w (Assign range server until) l = l
      happens_names w (Renew range server until) l = l
      happens_names w (Moment now) l = l
      happens_names w (Checkpoint server range combine) l = l
      happens_names w (Split server range key) l = l
      happens_names w (Merge server left right) l = l
