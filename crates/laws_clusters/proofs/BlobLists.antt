-- In every run without merges the blob stream of each range has sealed extents alone, and whoever was told of streams that were opened was
-- told of a blob stream whose extents all have a length.
use Rattle.std.proofs.Common.{◌≡◌, ◌⊎◌, ℕ, zero, suc, ◌+◌, ◌≤◌, Bool, true, false, not, ◌&&◌, ◌||◌, ◌==◌, nat_le, nat_lt, List, [], ◌∷◌, ◌++◌, Option, Some, None, Result, Ok, Err, is_some, slice_get, Contains, refl, sym, ap, ◌∙◌, subst, inl, inr, arith, eqb-true}
use Rattle.std.proofs.lemmas.Bool.{and_parts, not-false, ltb-true}
use Rattle.std.proofs.lemmas.List.Elements.{Contains-append_cases}
use Rattle.block_types.specs.declared.record.Nodes.{Nodes}
use Rattle.wire.specs.declared.actor.ActorId.{ActorId}
use Rattle.wire.specs.declared.actor.ActorId.TheVariants.{Node, Manager, Map, Server, User}
use Rattle.wire.specs.declared.actor.ReqNo.{ReqNo}
use Rattle.wire.specs.declared.body.Body.{Body}
use Rattle.wire.specs.declared.body.Body.TheVariants as bodies
use Rattle.wire.specs.declared.body.StreamBody.{StreamBody}
use Rattle.wire.specs.declared.body.StreamBody.TheVariants as streams
use Rattle.wire.specs.declared.note.Note.{Note}
use Rattle.wire.specs.declared.packet.Packet.{Packet}
use Rattle.wire.specs.declared.refusal.Refusal.{Refusal}
use Rattle.wire.specs.declared.refusal.Refusal.TheVariants.{Stale, BadPick}
use Rattle.wire.specs.declared.streams.Modify.{Modify}
use Rattle.wire.specs.declared.streams.Source.{Source}
use Rattle.wire.specs.declared.streams.StreamExtent.{StreamExtent}
use Rattle.wire.specs.declared.streams.StreamKind.{StreamKind}
use Rattle.wire.specs.declared.streams.StreamKind.TheVariants as kinds
use Rattle.wire.specs.declared.streams.StreamLists.{StreamLists}
use Rattle.wire.specs.declared.streams.StreamName.{StreamName}
use Rattle.streams.specs.Streams.{Stream, Streams, stream_of, base_of, whole, passes, empty_stream, extending, extended_if, longer, trimming, log_name, blob_data_name}
use Rattle.model_streams.specs.declared.event.Event.{Event}
use Rattle.model_streams.specs.declared.event.Event.TheVariants.{Submit, Deliver, Stop, Restart, Decide, GiveUp, Assign, Renew, Moment, Checkpoint, Split, Merge}
use Rattle.model_streams.specs.declared.extent.Extent.{Extent}
use Rattle.model_streams.specs.Actors.{is_user, generation_of}
use Rattle.model_streams.specs.Manager.{Catalog, catalog_stopped, forgotten_if, create_refusal, create_taken, open_tests, open_refusal, open_taken, told_before, told_extents, told_stream, told_streams, confirm_refusal, answer, is_foreign, is_pick, sealed_in, sealed_lengths, extend_made, last_told, extend_answered, extend_rule, trim_answered, trim_rule, modify_refusal, modify_taken, manager_rule, decide_rule}
use Rattle.model_streams.specs.Maps.{entry_at}
use Rattle.model_streams.specs.Node.{Replica, extent_of, node_rule}
use Rattle.model_streams.specs.Outcome.{Outcome, packet, refused, or_refused}
use Rattle.model_streams.specs.StreamSystem.Move.{Happens, Asks, Says, Observes}
use Rattle.model_streams.specs.StreamSystem.{StreamSystem, stops_in, stands_in, node_halted, node_performs, manager_halted, manager_performs, delivered, delivered_if, is_request, is_server_call, is_told, is_table_note, node_stops, manager_stops, stop, is_present, restart, happens, start, Move, moved, run_moves}
use Rattle.model_streams.proofs.Tests.{if_elim, none_met}
use Rattle.model_partition.specs.declared.split_job.SplitJob.{SplitJob}
use Rattle.model_partition.specs.Map.{MapState, range_at}
use Rattle.model_partition.specs.MapRules.{assign_fault, assign_rule, renew_fault, renew_rule, map_rule}
use Rattle.model_partition.specs.Range.{RangeState}
use Rattle.model_partition.specs.Server.{ServerState, range_of}
use Rattle.model_partition.specs.Servers.{ServerCell, ServersOutcome, noted, server_takes, server_gives_up, server_checkpoints, server_splits, server_stops, server_starts}
use Rattle.model_partition.specs.Splits.{all_streams}
use Rattle.model_partition.specs.Cluster.{IsUnmerged, Cluster, servers_perform, map_performs, map_performs_if, delivered_to, delivers, stops, restarts, cluster_after}
use Rattle.laws_streams.specs.Listings.{Listed}
use Rattle.laws_streams.proofs.BuildRequests.{ServersAsk, servers_ask}
use Rattle.laws_streams.proofs.Choices.{each-contains, contains_get}
use Rattle.laws_streams.proofs.DecisionAnswers as decision
use Rattle.laws_streams.proofs.Invariant.{run_good}
use Rattle.laws_streams.proofs.KeptStreams.{seal_same, decide_same}
use Rattle.laws_streams.proofs.Listings.{lists_grow}
use Rattle.laws_streams.proofs.ListRules.{Goes, Grown, Leaves, Built, gathered_whole, rule_goes, decide_goes}
use Rattle.laws_streams.proofs.Lists.{get_joined}
use Rattle.laws_streams.proofs.ManagerAnswers as manager
use Rattle.laws_streams.proofs.NodeAnswers as node
use Rattle.laws_streams.proofs.PacketSources.{IsSpoken, Sends, NodeSends, ManagerSends, DecisionSends, rule_of, moved_gains}
use Rattle.laws_streams.proofs.StreamAnswers.{same_packet}
use Rattle.laws_streams.proofs.StreamNames.{with_stream_elim}
use Rattle.laws_streams.proofs.WholeLists.{whole_get, none_whole}
use Rattle.laws_servers.specs.Sending.{is_server_answer, is_map_call, IsFromServer, AllFromServers}
use Rattle.laws_servers.proofs.ServerSteps.{server_takes_shows, server_gives_up_tidy, server_checkpoints_tidy, server_splits_tidy, server_stops_still, server_starts_still}
use Rattle.laws_map.specs.Openings.{AreQuiet, IsQuiet}
use Rattle.laws_map.proofs.Knowing.{each_has}
use Rattle.laws_map.proofs.LayerOpenings.{assign_quiet, renew_quiet, map_quiet}
use Rattle.laws_ranges.specs.SplitJobs.{AreClosed, BlobTold}
use Rattle.laws_clusters.proofs.CountedOpenings.{IsCounted, OpensCounted}
use Rattle.laws_clusters.proofs.Invariant.{ExtendNoBlobs}
use Rattle.laws_clusters.proofs.RangeStreams.{IsOfSplit, AreOfSplits}

-- the extent has a length in the catalog
abbrev pub HasLength : Catalog → ℕ → Type 0
HasLength b e = (length : ℕ) × (sealed_lengths b e ≡ Some length)

-- so has each extent of the stream, and of those that have left it
abbrev pub AreSealed : Catalog → Stream → Type 0
AreSealed b x = (index e : ℕ) → slice_get (whole x) index ≡ Some e → HasLength b e

-- so it is of the blob stream of each range but that of users
abbrev pub ListsSealed : Catalog → Type 0
ListsSealed b = (range : ℕ) → 1 ≤ range → (x : Stream) → stream_of b.stream (blob_data_name range) ≡ Some x → AreSealed b x

-- blob streams of ranges have sealed extents alone, and so they were told to whoever opened them
pub record BlobsSealed (w : StreamSystem) : Type 0 where
  pub lists : ListsSealed w.catalog
  pub told : (p : Packet) → Contains w.post p → (q : ReqNo) (lists : StreamLists) → p.body ≡ bodies.Stream (streams.Opened q lists) → AreClosed lists.blob_data.extents

none_in : {p : Packet} → Contains [] p → ⊥
none_in there = let less = there.1 in omega (arith, less)

-- ---- what is told of a blob stream

extents_closed : (b : Catalog) (es : List ℕ) → ((index e : ℕ) → slice_get es index ≡ Some e → HasLength b e) → AreClosed (told_extents b.extent es)
extents_closed b [] sealed x among = absurd (let less = among.1 in omega (arith, less))
extents_closed b (e ∷ es) sealed x among = by (b.extent e) (sealed 0 e refl) (extents_closed b es (λ index f at. sealed (suc index) f at)) x among
  where
    by : (o : Option Extent) → (length : ℕ) × (sealed_in o ≡ Some length) → AreClosed (told_extents b.extent es) → AreClosed (told_before e o (told_extents b.extent es))
    by None has rest x among = rest x among
    by (Some y) has rest x (zero, less, is) = subst (λ (z : StreamExtent). is_some z.length ≡ true) is (ap is_some has.1)
    by (Some y) has rest x (suc k, less, is) = rest x (k, omega (arith, less), is)

-- what is told of a range but that of users
opened_closed : (b : Catalog) (range : ℕ) → 1 ≤ range → ListsSealed b → AreClosed (told_streams b range).blob_data.extents
opened_closed b range counted sealed = by (b.stream range 3) refl
  where
    by : (o : Option Stream) → b.stream range 3 ≡ o → AreClosed (told_stream b.extent o).extents
    by None is x among = absurd (let less = among.1 in omega (arith, less))
    by (Some z) is x among = extents_closed b z.extents (λ index e at. sealed range counted z is (base_of z + index) e (whole_get z index ∙ at)) x among

-- under generation 0 no streams are opened
opens_later : (b : Catalog) (p : Packet) (range generation : ℕ) → open_refusal b p range generation ≡ None → generation ≡ 0 → ⊥
opens_later b p range generation free none =
    let tests = none_met (open_tests b p range generation) free in
    by (b.stream range 0) (and_parts (passes (λ x. nat_lt x.fence generation) (b.stream range 0)) _ (not-false _ tests.1.1.0)).0
  where
    by : (o : Option Stream) → passes (λ x. nat_lt x.fence generation) o ≡ true → ⊥
    by None t = cc
    by (Some x) t = let less = ltb-true x.fence generation t in omega (arith, less, none)

-- ---- from one catalog to the next

module _ (post : List Packet) (b c : Catalog) (goes : Goes post b c) (sealed : ListsSealed b) where
  stays_sealed : (e : ℕ) → HasLength b e → HasLength c e
  stays_sealed e (l, is) = by (b.extent e) refl is
    where
      by : (o : Option Extent) → b.extent e ≡ o → sealed_in o ≡ Some l → HasLength c e
      by None there has = absurd cc
      by (Some y) there has = let k = goes.kept e y there in (l, ap sealed_in k.is ∙ k.sealed l has)

  -- where blob streams are the same
  same_sealed : ((range : ℕ) → 1 ≤ range → stream_of c.stream (blob_data_name range) ≡ stream_of b.stream (blob_data_name range)) → ListsSealed c
  same_sealed same range counted x there index e at = stays_sealed e (sealed range counted x (sym (same range counted) ∙ there) index e at)

  -- and where no extent is made, and what is built has sealed extents alone
  module _ (fresh : b.extent (suc b.count) ≡ None) (same : c.count ≡ b.count) (listed : (s : StreamName) (x : Stream) → stream_of b.stream s ≡ Some x → Listed b s x)
      (built : (range : ℕ) (z : Stream) → Built post b (blob_data_name range) z → AreSealed b z) where
    never_grown : (s : StreamName) (z : Stream) → Grown b c.extent s z → ⊥
    never_grown s z g = elim (goes.numbered (suc b.count) g.new g.made) [
      | inl old ↦ (let d : None ≡ Some old.0 = sym fresh ∙ old.1 in cc)
      | inr low ↦ omega (arith, low, same)
    ]

    -- what leaves a log is not its last extent
    left_sealed : (e : ℕ) → Leaves b e → HasLength b e
    left_sealed e a =
        let (l, s) = (listed (log_name a.range) a.log a.there).closed (λ k. cc) a.index e a.next a.at a.behind in
        (l, ap sealed_in s.there ∙ s.sealed)

    goes_sealed : ListsSealed c
    goes_sealed range counted z there index e at = elim (goes.lists (blob_data_name range) z there) [
      | inl o ↦ stays_sealed e (sealed range counted o.was o.there index e (subst (λ xs. slice_get xs index ≡ Some e) o.same at))
      | inr n ↦ elim n [
        | inl k ↦ absurd (let d : slice_get [] index ≡ Some e = subst (λ xs. slice_get xs index ≡ Some e) (none_whole z k.0 k.1) at in cc)
        | inr k ↦ elim k [
          | inl g ↦ absurd (never_grown (blob_data_name range) z g.1)
          | inr h ↦ elim h [
            | inl g ↦ elim (get_joined (whole g.was) g.left index e (subst (λ xs. slice_get xs index ≡ Some e) (gathered_whole g) at)) [
              | inl a ↦ stays_sealed e (sealed range counted g.was g.there index e a)
              | inr a ↦ stays_sealed e (left_sealed e (g.leaves a.0 e a.1))
            ]
            | inr g ↦ stays_sealed e (built range z g index e at)
          ]
        ]
      ]
    ]

-- what a stop leaves
stopped_sealed : (b : Catalog) → ListsSealed b → ListsSealed (catalog_stopped b)
stopped_sealed b sealed range counted x there index e at = let (l, is) = sealed range counted x there index e at in (l, by (b.extent e) ∙ is)
  where
    by : (o : Option Extent) → sealed_in (forgotten_if o) ≡ sealed_in o
    by None = refl
    by (Some y) = refl

-- ---- rules of the manager

module _ (b : Catalog) (p : Packet) where
  abbrev SameCount : Outcome Catalog → Type 0
  SameCount o = o.after.count ≡ b.count

  unless_count : (q : ReqNo) (x : Option Refusal) (o : Outcome Catalog) → SameCount o → SameCount (or_refused b Manager p q x o)
  unless_count q (Some refusal) o same = refl
  unless_count q None o same = same

  trim_count : (range generation before : ℕ) (to_blob : Bool) (q : ReqNo) → SameCount (trim_rule b p range generation before to_blob q)
  trim_count range generation before to_blob q =
      if_elim SameCount (is_user p.from) (refused b Manager p q Stale) (trim_answered b p range before to_blob q (trimming b.stream range generation before))
      (λ t. refl) (λ t. by (trimming b.stream range generation before))
    where
      by : (x : Result Bool Refusal) → SameCount (trim_answered b p range before to_blob q x)
      by (Err refusal) = refl
      by (Ok false) = refl
      by (Ok true) = refl

  -- the stream of another name is as it was
  abbrev SameAt : StreamName → Outcome Catalog → Type 0
  SameAt name o = stream_of o.after.stream name ≡ stream_of b.stream name

  answered_same : (s name : StreamName) → (name ≡ s → ⊥) → (fence : ℕ) (pick : Nodes) (q : ReqNo) (x : Result (Option ℕ) Refusal) → SameAt name (extend_answered b p s fence pick q x)
  answered_same s name apart fence pick q (Err refusal) = refl
  answered_same s name apart fence pick q (Ok None) =
      if_elim (SameAt name) (is_pick b.nodes pick) (extend_made b p s fence pick q) (refused b Manager p q BadPick) (λ t. longer_same (stream_of b.stream s)) (λ t. refl)
    where
      longer_same : (o : Option Stream) → stream_of (extended_if b.stream s (suc b.count) o) name ≡ stream_of b.stream name
      longer_same None = refl
      longer_same (Some x) = with_stream_elim (λ o. o ≡ stream_of b.stream name) b.stream s (longer (suc b.count) x) name (λ k. absurd (apart k)) refl
  answered_same s name apart fence pick q (Ok (Some e)) = by (b.extent e)
    where
      by : (o : Option Extent) → SameAt name (last_told b p e o q)
      by None = refl
      by (Some x) = refl

  extend_same : (s name : StreamName) (generation : ℕ) (last : Option ℕ) (pick : Nodes) (q : ReqNo) → (is_foreign p.from s.range ≡ false → name ≡ s → ⊥) → SameAt name (extend_rule b p s generation last pick q)
  extend_same s name generation last pick q apart =
      if_elim (SameAt name) (is_foreign p.from s.range) (refused b Manager p q Stale) (extend_answered b p s generation pick q (extending (sealed_lengths b) (stream_of b.stream s) generation last))
      (λ t. refl) (λ f. answered_same s name (apart f) generation pick q (extending (sealed_lengths b) (stream_of b.stream s) generation last))

-- ---- who asks for more extents

-- users and servers alone
abbrev ExtendFrom : ActorId → Body → Type 0
ExtendFrom from (bodies.Stream (streams.Extend stream fence last pick q)) = (is_user from ≡ true) ⊎ ((server : ℕ) × (from ≡ Server server))
ExtendFrom from body = Unit {0}

abbrev AreCalled : List Packet → Type 0
AreCalled post = (p : Packet) → Contains post p → ExtendFrom p.from p.body

user_extends : (u : ℕ) (body : Body) → ExtendFrom (User u) body
user_extends u (bodies.Stream (streams.Extend stream fence last pick q)) = inl refl
user_extends u (bodies.Stream body) = tt
user_extends u body = tt

server_extends : (s : ℕ) (body : Body) → ExtendFrom (Server s) body
server_extends s (bodies.Stream (streams.Extend stream fence last pick q)) = inr (s, refl)
server_extends s (bodies.Stream body) = tt
server_extends s body = tt

told_extends : (from : ActorId) (body : Body) → is_told body ≡ true → ExtendFrom from body
told_extends from (bodies.Stream body) told = absurd cc
told_extends from body told = tt

node_extends : (s : Option Replica) (k : ℕ) (taken : Packet) (notes : List Note) (from to : ActorId) (body : Body) → node.BodyTells s k taken notes to body → ExtendFrom from body
node_extends s k taken notes from to (bodies.Stream body) tells = absurd tells
node_extends s k taken notes from to body tells = tt

manager_extends : (b : Catalog) (taken : Packet) (from to : ActorId) (body : Body) → manager.BodyTells b taken to body → ExtendFrom from body
manager_extends b taken from to (bodies.Stream (streams.Extend stream fence last pick q)) tells = absurd tells
manager_extends b taken from to (bodies.Stream body) tells = tt
manager_extends b taken from to body tells = tt

decision_extends : (b : Catalog) (e : ℕ) (after : Catalog) (from to : ActorId) (body : Body) → decision.BodyTells b e after to body → ExtendFrom from body
decision_extends b e after from to (bodies.Stream body) tells = absurd tells
decision_extends b e after from to body tells = tt

none_called : AreCalled []
none_called p there = absurd (none_in there)

one_called : (p : Packet) → ExtendFrom p.from p.body → AreCalled (p ∷ [])
one_called p from x (zero, less, is) = subst (λ (y : Packet). ExtendFrom y.from y.body) is from
one_called p from x (suc k, less, is) = absurd (omega (arith, less))

module _ (w : StreamSystem) (old : AreCalled w.post) where
  abbrev Called : StreamSystem → Type 0
  Called v = AreCalled v.post

  more_called : (ps : List Packet) → AreCalled ps → AreCalled (w.post ++ ps)
  more_called ps new p there = elim (Contains-append_cases w.post ps p there) [ inl before ↦ old p before | inr now ↦ new p now ]

  node_called : (n e : ℕ) (o : Outcome (Option Replica)) → AreCalled o.packets → Called (node_performs w n e o)
  node_called n e o new =
      if_elim Called (stops_in (w.cell n) o.written) _ _
      (λ s. if_elim Called (stands_in (w.cell n)) _ _ (λ t. more_called [] none_called) (λ t. old)) (λ s. more_called o.packets new)

  manager_called : (o : Outcome Catalog) → AreCalled o.packets → Called (manager_performs w o)
  manager_called o new =
      if_elim Called (stops_in w.manager_cell o.written) _ _
      (λ s. if_elim Called (stands_in w.manager_cell) _ _ (λ t. more_called [] none_called) (λ t. old)) (λ s. more_called o.packets new)

  delivered_called : (p : Packet) (to : ActorId) → Called (delivered w p to)
  delivered_called p (Node n) =
      let e = extent_of p.body in
      let o = node_rule n (w.replica n e) p p.body in
      if_elim Called (w.cell n).up (node_performs w n e o) w
      (λ up. node_called n e o (λ x there. node_extends (w.replica n e) e p o.notes x.from x.to x.body (each-contains (node.NodeTells n (w.replica n e) e p o.notes) o.packets x (node.node_tells n (w.replica n e) p) there).1)) (λ up. old)
  delivered_called p Manager =
      let o = manager_rule w.catalog p p.body in
      if_elim Called w.manager_cell.up (manager_performs w o) w
      (λ up. manager_called o (λ x there. manager_extends w.catalog p x.from x.to x.body (each-contains (manager.ManagerTells w.catalog p) o.packets x (manager.manager_tells w.catalog p) there).1)) (λ up. old)
  delivered_called p Map = old
  delivered_called p (Server s) = old
  delivered_called p (User u) = old

  delivered_if_called : (o : Option Packet) → Called (delivered_if w o)
  delivered_if_called None = old
  delivered_if_called (Some p) = delivered_called p p.to

  stop_called : (actor : ActorId) (call : ℕ) (keep : Bool) → Called (stop w actor call keep)
  stop_called (Node n) call keep =
      if_elim Called (w.cell n).up (node_stops w n call keep) w (λ t. if_elim Called (call == 0) (node_halted w n) _ (λ z. old) (λ z. old)) (λ t. old)
  stop_called Manager call keep =
      if_elim Called w.manager_cell.up (manager_stops w call keep) w (λ t. if_elim Called (call == 0) (manager_halted w) _ (λ z. old) (λ z. old)) (λ t. old)
  stop_called Map call keep = old
  stop_called (Server s) call keep = old
  stop_called (User u) call keep = old

  restart_called : (actor : ActorId) → Called (restart w actor)
  restart_called (Node n) = if_elim Called ((w.cell n).up || not (is_present w n)) w _ (λ t. old) (λ t. old)
  restart_called Manager = if_elim Called w.manager_cell.up w _ (λ t. old) (λ t. old)
  restart_called Map = old
  restart_called (Server s) = old
  restart_called (User u) = old

  happens_called : (event : Event) → Called (happens w event)
  happens_called (Submit user to body) =
      if_elim Called (is_request body) _ w (λ t. more_called (packet (User user) to body ∷ []) (one_called (packet (User user) to body) (user_extends user body))) (λ t. old)
  happens_called (Deliver number) = delivered_if_called (slice_get w.post number)
  happens_called (Stop actor call keep) = stop_called actor call keep
  happens_called (Restart actor) = restart_called actor
  happens_called (Decide e) =
      let o = decide_rule w.catalog e (w.catalog.extent e) in
      if_elim Called w.manager_cell.up (manager_performs w o) w
      (λ up. manager_called o (λ x there. decision_extends w.catalog e o.after x.from x.to x.body (each-contains (decision.DecisionTells w.catalog e o.after) o.packets x (decision.decision_tells w.catalog e) there).1)) (λ up. old)
  happens_called (GiveUp server range pick) = old
  happens_called (Assign range server until) = old
  happens_called (Renew range server until) = old
  happens_called (Moment now) = old
  happens_called (Checkpoint server range combine) = old
  happens_called (Split server range key) = old
  happens_called (Merge server left right) = old

  moved_called : (move : Move) → Called (moved w move)
  moved_called (Happens event) = happens_called event
  moved_called (Asks server to body) =
      if_elim Called (is_server_call body) _ w (λ t. more_called (packet (Server server) to body ∷ []) (one_called (packet (Server server) to body) (server_extends server body))) (λ t. old)
  moved_called (Says from to body) =
      if_elim Called (is_told body) _ w (λ t. more_called (packet from to body ∷ []) (one_called (packet from to body) (told_extends from body t))) (λ t. old)
  moved_called (Observes note) = if_elim Called (is_table_note note) _ w (λ t. old) (λ t. old)

run_called : (moves : List Move) (w : StreamSystem) → AreCalled w.post → AreCalled (run_moves moves w).post
run_called [] w old = old
run_called (move ∷ moves) w old = run_called moves (moved w move) (moved_called w old move)

-- ---- stream systems to which moves lead

record IsReached (w : StreamSystem) : Type 0 where
  fresh : w.catalog.extent (suc w.catalog.count) ≡ None
  asks : ServersAsk w.post
  listed : (s : StreamName) (x : Stream) → stream_of w.catalog.stream s ≡ Some x → Listed w.catalog s x
  called : AreCalled w.post

reached : (nodes target : ℕ) (moves : List Move) → IsReached (run_moves moves (start nodes target))
reached nodes target moves = record {
  fresh = (run_good (start nodes target) moves nodes target refl).holds.catalog.fresh (suc (run_moves moves (start nodes target)).catalog.count) (omega arith);
  asks = servers_ask nodes target moves;
  listed = (lists_grow nodes target moves []).listed;
  called = run_called moves (start nodes target) (λ p there. absurd (none_in there));
}

-- ---- streams that are built for a split

abbrev source_at : SplitJob → StreamKind → Source
source_at job kind = record { stream = record { range = job.range; kind = kind }; generation = job.generation }

-- each is built of the one of its kind
source_of : (job : SplitJob) (m : Modify) → Contains (all_streams job) m → m.sources ≡ source_at job m.stream.kind ∷ []
source_of job m among = each-contains (λ (n : Modify). n.sources ≡ source_at job n.stream.kind ∷ []) (all_streams job) m (refl, (refl, (refl, (refl, (refl, (refl, (refl, (refl, tt)))))))) among

module _ (w : StreamSystem) (r : IsReached w) (extends : ExtendNoBlobs w.post) (splits : AreOfSplits w) (sealed : ListsSealed w.catalog) where
  built_sealed : (range : ℕ) (z : Stream) → Built w.post w.catalog (blob_data_name range) z → AreSealed w.catalog z
  built_sealed range z g index e at =
      let a = g.asked in
      let (server, from) = (r.asks a.packet a.list a.request a.sent a.body).0 in
      let body = bodies.Stream (streams.MultiModify a.list a.request) in
      let sent : Contains w.post (packet (Server server) a.packet.to body) = subst (Contains w.post) (same_packet a.packet (Server server) a.packet.to body from refl a.body) a.sent in
      let split : IsOfSplit w a.list = splits server a.packet.to a.list a.request sent a.entry a.among in
      let one : a.entry.sources ≡ source_at split.job a.entry.stream.kind ∷ [] = source_of split.job a.entry (subst (λ (l : List Modify). Contains l a.entry) split.is a.among) in
      let blob : a.entry.sources ≡ source_at split.job kinds.BlobData ∷ [] = one ∙ ap (λ (n : StreamName). source_at split.job n.kind ∷ []) a.name in
      let (x, there) = split.streams kinds.BlobData in
      let built = g.alone (source_at split.job kinds.BlobData) blob x there in
      sealed split.job.range split.counted built.list built.there index e (subst (λ xs. slice_get xs index ≡ Some e) built.same at)

  -- ---- what comes to the manager

  module _ (p : Packet) (there : Contains w.post p) where
    abbrev after : Body → Catalog
    after body = (manager_rule w.catalog p body).after

    goes : (body : Body) → p.body ≡ body → Goes w.post w.catalog (after body)
    goes body is = rule_goes w.post w.catalog p r.fresh there r.asks body is

    -- no extent is made
    makes_none : (body : Body) → p.body ≡ body → (after body).count ≡ w.catalog.count → ListsSealed (after body)
    makes_none body is same = goes_sealed w.post w.catalog (after body) (goes body is) sealed r.fresh same r.listed built_sealed

    -- nobody is given a longer blob stream
    not_longer : (range : ℕ) → 1 ≤ range → (s : StreamName) (generation : ℕ) (last : Option ℕ) (pick : Nodes) (q : ReqNo) → p.body ≡ bodies.Stream (streams.Extend s generation last pick q) → is_foreign p.from s.range ≡ false → blob_data_name range ≡ s → ⊥
    not_longer range counted s generation last pick q is own same = by (subst (ExtendFrom p.from) is (r.called p there))
      where
        by : (is_user p.from ≡ true) ⊎ ((server : ℕ) × (p.from ≡ Server server)) → ⊥
        by (inl user) =
            let free : not (s.range == 0) ≡ false = ap (λ u. u && not (s.range == 0)) (sym user) ∙ own in
            let none : s.range ≡ 0 = eqb-true s.range 0 (not-false (s.range == 0) free) in
            let number : range ≡ s.range = ap (λ (n : StreamName). n.range) same in
            omega (arith, counted, none, number)
        by (inr (server, from)) =
            extends server p.to s generation last pick q
            (subst (Contains w.post) (same_packet p (Server server) p.to (bodies.Stream (streams.Extend s generation last pick q)) from refl is) there) (ap (λ (n : StreamName). n.kind) (sym same))

    stream_sealed : (body : StreamBody) → p.body ≡ bodies.Stream body → ListsSealed (after (bodies.Stream body))
    stream_sealed (streams.CreateStream s fence q) is =
        makes_none (bodies.Stream (streams.CreateStream s fence q)) is (unless_count w.catalog p q (create_refusal w.catalog p s) (create_taken w.catalog p s (generation_of p.from fence) q) refl)
    stream_sealed (streams.OpenStreams range generation q) is =
        makes_none (bodies.Stream (streams.OpenStreams range generation q)) is (unless_count w.catalog p q (open_refusal w.catalog p range generation) (open_taken w.catalog p range generation q) refl)
    stream_sealed (streams.Confirm range generation q) is =
        makes_none (bodies.Stream (streams.Confirm range generation q)) is (unless_count w.catalog p q (confirm_refusal w.catalog p range generation) (answer w.catalog p (streams.Confirmed q)) refl)
    stream_sealed (streams.Extend s generation last pick q) is =
        same_sealed w.post w.catalog (after (bodies.Stream (streams.Extend s generation last pick q))) (goes (bodies.Stream (streams.Extend s generation last pick q)) is) sealed
        (λ range counted. extend_same w.catalog p s (blob_data_name range) (generation_of p.from generation) last pick q (λ own same. not_longer range counted s generation last pick q is own same))
    stream_sealed (streams.Trim range generation before to_blob q) is =
        makes_none (bodies.Stream (streams.Trim range generation before to_blob q)) is (trim_count w.catalog p range generation before to_blob q)
    stream_sealed (streams.MultiModify list q) is =
        makes_none (bodies.Stream (streams.MultiModify list q)) is (unless_count w.catalog p q (modify_refusal w.catalog p list) (modify_taken w.catalog p list q) refl)
    stream_sealed body is = sealed

    rule_sealed : (body : Body) → p.body ≡ body → ListsSealed (after body)
    rule_sealed (bodies.Stream body) is = stream_sealed body is
    rule_sealed (bodies.Seal body) is =
        same_sealed w.post w.catalog (after (bodies.Seal body)) (goes (bodies.Seal body) is) sealed (λ range counted. ap (λ (t : Streams). stream_of t (blob_data_name range)) (seal_same w.catalog p body))
    rule_sealed body is = sealed

  -- ---- events

  abbrev Sealed : StreamSystem → Type 0
  Sealed v = ListsSealed v.catalog

  performs_sealed : (o : Outcome Catalog) → ListsSealed o.after → Sealed (manager_performs w o)
  performs_sealed o now =
      if_elim Sealed (stops_in w.manager_cell o.written) _ _
      (λ s. if_elim Sealed (stands_in w.manager_cell) _ _ (λ t. stopped_sealed o.after now) (λ t. stopped_sealed w.catalog sealed)) (λ s. now)

  delivered_sealed : (p : Packet) → Contains w.post p → (to : ActorId) → Sealed (delivered w p to)
  delivered_sealed p there (Node n) =
      let e = extent_of p.body in
      let o = node_rule n (w.replica n e) p p.body in
      if_elim Sealed (w.cell n).up (node_performs w n e o) w
      (λ up. if_elim Sealed (stops_in (w.cell n) o.written) _ _ (λ s. if_elim Sealed (stands_in (w.cell n)) _ _ (λ t. sealed) (λ t. sealed)) (λ s. sealed)) (λ up. sealed)
  delivered_sealed p there Manager =
      if_elim Sealed w.manager_cell.up (manager_performs w (manager_rule w.catalog p p.body)) w (λ up. performs_sealed (manager_rule w.catalog p p.body) (rule_sealed p there p.body refl)) (λ up. sealed)
  delivered_sealed p there Map = sealed
  delivered_sealed p there (Server s) = sealed
  delivered_sealed p there (User u) = sealed

  delivered_if_sealed : (number : ℕ) (o : Option Packet) → slice_get w.post number ≡ o → Sealed (delivered_if w o)
  delivered_if_sealed number None at = sealed
  delivered_if_sealed number (Some p) at = delivered_sealed p (contains_get w.post number p at) p.to

  stop_sealed : (actor : ActorId) (call : ℕ) (keep : Bool) → Sealed (stop w actor call keep)
  stop_sealed (Node n) call keep =
      if_elim Sealed (w.cell n).up (node_stops w n call keep) w (λ t. if_elim Sealed (call == 0) (node_halted w n) _ (λ z. sealed) (λ z. sealed)) (λ t. sealed)
  stop_sealed Manager call keep =
      if_elim Sealed w.manager_cell.up (manager_stops w call keep) w (λ t. if_elim Sealed (call == 0) (manager_halted w) _ (λ z. stopped_sealed w.catalog sealed) (λ z. sealed)) (λ t. sealed)
  stop_sealed Map call keep = sealed
  stop_sealed (Server s) call keep = sealed
  stop_sealed (User u) call keep = sealed

  restart_sealed : (actor : ActorId) → Sealed (restart w actor)
  restart_sealed (Node n) = if_elim Sealed ((w.cell n).up || not (is_present w n)) w _ (λ t. sealed) (λ t. sealed)
  restart_sealed Manager = if_elim Sealed w.manager_cell.up w _ (λ t. sealed) (λ t. sealed)
  restart_sealed Map = sealed
  restart_sealed (Server s) = sealed
  restart_sealed (User u) = sealed

  lists_on : (event : Event) → Sealed (happens w event)
  lists_on (Submit user to body) = if_elim Sealed (is_request body) _ w (λ t. sealed) (λ t. sealed)
  lists_on (Deliver number) = delivered_if_sealed number (slice_get w.post number) refl
  lists_on (Stop actor call keep) = stop_sealed actor call keep
  lists_on (Restart actor) = restart_sealed actor
  lists_on (Decide e) =
      let o = decide_rule w.catalog e (w.catalog.extent e) in
      if_elim Sealed w.manager_cell.up (manager_performs w o) w
      (λ up. performs_sealed o
      (same_sealed w.post w.catalog o.after (decide_goes w.post w.catalog e (w.catalog.extent e) refl) sealed (λ range counted. ap (λ (t : Streams). stream_of t (blob_data_name range)) (decide_same w.catalog e (w.catalog.extent e)))))
      (λ up. sealed)
  lists_on (GiveUp server range pick) = sealed
  lists_on (Assign range server until) = sealed
  lists_on (Renew range server until) = sealed
  lists_on (Moment now) = sealed
  lists_on (Checkpoint server range combine) = sealed
  lists_on (Split server range key) = sealed
  lists_on (Merge server left right) = sealed

-- ---- what is told

-- the manager alone tells of streams that are opened, as its catalog has them
module _ (w : StreamSystem) (opens : OpensCounted w.post) (sealed : ListsSealed w.catalog) (p : Packet) (q : ReqNo) (lists : StreamLists) (is : p.body ≡ bodies.Stream (streams.Opened q lists)) where
  not_spoken : IsSpoken p → ⊥
  not_spoken (inl t) = let z : false ≡ true = ap is_request (sym is) ∙ t in cc
  not_spoken (inr (inl (server, from, t))) = let z : false ≡ true = ap is_server_call (sym is) ∙ t in cc
  not_spoken (inr (inr t)) = let z : false ≡ true = ap is_told (sym is) ∙ t in cc

  module _ (move : Move) (v : StreamSystem) where
    no_node_tells : NodeSends w move v p → ⊥
    no_node_tells n =
        let e = extent_of n.taken.body in
        let s = w.replica n.node e in
        let notes = (rule_of w n.node n.taken).notes in
        subst (node.BodyTells s e n.taken notes p.to) is (each-contains (node.NodeTells n.node s e n.taken notes) (rule_of w n.node n.taken).packets p (node.node_tells n.node s n.taken) n.rule).1

    no_decision_tells : DecisionSends w v p → ⊥
    no_decision_tells d =
        let after = (decide_rule w.catalog d.extent (w.catalog.extent d.extent)).after in
        subst (decision.BodyTells w.catalog d.extent after p.to) is (each-contains (decision.DecisionTells w.catalog d.extent after) _ p (decision.decision_tells w.catalog d.extent) d.rule).1

    manager_tells : ManagerSends w move v p → AreClosed lists.blob_data.extents
    manager_tells m =
        let f : manager.FromOpening w.catalog m.taken p.to q lists =
        subst (manager.BodyTells w.catalog m.taken p.to) is (each-contains (manager.ManagerTells w.catalog m.taken) _ p (manager.manager_tells w.catalog m.taken) m.rule).1 in
        let range : IsCounted f.range f.generation = opens m.taken (contains_get w.post m.reaches.number m.taken m.reaches.sent) f.range f.generation q f.body in
        let closed : AreClosed (told_streams w.catalog f.range).blob_data.extents =
        elim range [ inl some ↦ opened_closed w.catalog f.range some sealed | inr none ↦ absurd (opens_later w.catalog m.taken f.range f.generation f.none none) ] in
        subst (λ (l : StreamLists). AreClosed l.blob_data.extents) (sym f.told) closed

    sent_closed : Sends w move v p → AreClosed lists.blob_data.extents
    sent_closed (inl spoken) = absurd (not_spoken spoken)
    sent_closed (inr (inl n)) = absurd (no_node_tells n)
    sent_closed (inr (inr (inl m))) = manager_tells m
    sent_closed (inr (inr (inr d))) = absurd (no_decision_tells d)

-- ---- blob streams in stream systems

-- They stay sealed through each event of the stream layer.
pub blobs_on : (nodes target : ℕ) (moves : List Move) (w : StreamSystem) → run_moves moves (start nodes target) ≡ w → ExtendNoBlobs w.post → AreOfSplits w → OpensCounted w.post → BlobsSealed w → (event : Event) → BlobsSealed (happens w event)
blobs_on nodes target moves w leads extends splits opens blobs event = record {
  lists = lists_on w (subst IsReached leads (reached nodes target moves)) extends splits blobs.lists event;
  told = λ p there q lists is. elim ((moved_gains w (Happens event)).sends p there) [
    | inl old ↦ blobs.told p old q lists is
    | inr new ↦ sent_closed w opens blobs.lists p q lists is (Happens event) (happens w event) new
  ];
}

-- none of these packets tells of streams that were opened
abbrev pub TellNone : List Packet → Type 0
TellNone ps = (p : Packet) → Contains ps p → (q : ReqNo) (lists : StreamLists) → p.body ≡ bodies.Stream (streams.Opened q lists) → ⊥

-- And so they do where no more than such packets are sent.
pub blobs_told : (w : StreamSystem) (ps : List Packet) (ns : List Note) → TellNone ps → BlobsSealed w → BlobsSealed (record w { post = w.post ++ ps; notes = ns })
blobs_told w ps ns none blobs = record {
  lists = blobs.lists;
  told = λ p there q lists is. elim (Contains-append_cases w.post ps p there) [ inl old ↦ blobs.told p old q lists is | inr new ↦ absurd (none p new q lists is) ];
}

-- At first blob streams have no extent, and nothing was told.
pub first_blobs : (nodes target : ℕ) → BlobsSealed (start nodes target)
first_blobs nodes target = record {
  lists = λ range counted x there index e at.
      if_elim (λ (o : Option Stream). o ≡ Some x → HasLength (start nodes target).catalog e) ((range == 1) && nat_le 3 3) (Some (empty_stream 0)) None
      (λ t is. absurd (let same : empty_stream 0 ≡ x = cc in let d : slice_get [] index ≡ Some e = subst (λ (y : Stream). slice_get (whole y) index ≡ Some e) (sym same) at in cc)) (λ t is. absurd cc) there;
  told = λ p there q lists is. absurd (none_in there);
}

-- ---- blob streams of clusters

sender_of : (ps : List Packet) → AllFromServers ps → (p : Packet) → Contains ps p → IsFromServer p
sender_of [] all p there = absurd (none_in there)
sender_of (x ∷ ps) all p (zero, less, is) = subst IsFromServer is all.0
sender_of (x ∷ ps) all p (suc k, less, is) = sender_of ps all.1 p (k, omega (arith, less), is)

servers_tell_none : (ps : List Packet) → AllFromServers ps → TellNone ps
servers_tell_none ps all p there q lists is = by (sender_of ps all p there)
  where
    by : IsFromServer p → ⊥
    by (s, from, inl t) = let z : false ≡ true = ap is_server_call (sym is) ∙ t in cc
    by (s, from, inr (inl t)) = let z : false ≡ true = ap is_server_answer (sym is) ∙ t in cc
    by (s, from, inr (inr t)) = let z : false ≡ true = ap is_map_call (sym is) ∙ t in cc

quiet_tell_none : (ps : List Packet) → AreQuiet ps → TellNone ps
quiet_tell_none ps quiet p there q lists is = subst IsQuiet is (each_has (λ (x : Packet). IsQuiet x.body) ps p quiet there)

module _ (c : Cluster) (blobs : BlobsSealed c.stream_layer) where
  abbrev Blobs : Cluster → Type 0
  Blobs d = BlobsSealed d.stream_layer

  servers_blobs : (o : ServersOutcome) → AllFromServers o.packets → Blobs (servers_perform c o)
  servers_blobs o all = blobs_told c.stream_layer o.packets (noted c.stream_layer.notes o.notes) (servers_tell_none o.packets all) blobs

  still_blobs : (o : ServersOutcome) → o.packets ≡ [] → Blobs (servers_perform c o)
  still_blobs o none = servers_blobs o (subst AllFromServers (sym none) tt)

  does_blobs : (o : Outcome MapState) → AreQuiet o.packets → Blobs (map_performs c o)
  does_blobs o quiet =
      if_elim Blobs (stops_in c.map_cell o.written) _ _
      (λ t. if_elim Blobs (stands_in c.map_cell) _ _ (λ s. blobs_told c.stream_layer [] (c.stream_layer.notes ++ o.notes) (quiet_tell_none [] tt) blobs) (λ s. blobs))
      (λ f. blobs_told c.stream_layer o.packets (c.stream_layer.notes ++ o.notes) (quiet_tell_none o.packets quiet) blobs)

  does_if_blobs : (fault : Option Refusal) (o : Outcome MapState) → AreQuiet o.packets → Blobs (map_performs_if c fault o)
  does_if_blobs (Some refusal) o quiet = blobs
  does_if_blobs None o quiet = does_blobs o quiet

  -- where the stream layer's own events leave them so
  module _ (layer : (event : Event) → Blobs (record c { stream_layer = happens c.stream_layer event })) where
    delivers_blobs : (number : ℕ) (o : Option Packet) → slice_get c.stream_layer.post number ≡ o → Blobs (delivers c o)
    delivers_blobs number None at = blobs
    delivers_blobs number (Some p) at = go p.to refl
      where
        layer_takes : (to : ActorId) → p.to ≡ to → Blobs (record c { stream_layer = delivered c.stream_layer p to })
        layer_takes to is = subst BlobsSealed (ap (delivered_if c.stream_layer) at ∙ ap (delivered c.stream_layer p) is) (layer (Deliver number))

        go : (to : ActorId) → p.to ≡ to → Blobs (delivered_to c p to)
        go (Server s) is = servers_blobs (server_takes c.servers s p) (server_takes_shows c.servers s p).0
        go Map is = if_elim Blobs c.map_cell.up _ _ (λ up. does_blobs (map_rule c.map p p.body) (map_quiet c.map p p.body)) (λ up. blobs)
        go (Node n) is = layer_takes (Node n) is
        go Manager is = layer_takes Manager is
        go (User u) is = layer_takes (User u) is

    stops_blobs : (actor : ActorId) (call : ℕ) (keep : Bool) → Blobs (stops c actor call keep)
    stops_blobs (Server s) call keep = still_blobs (server_stops c.servers s call) (server_stops_still c.servers s call).0
    stops_blobs Map call keep = if_elim Blobs c.map_cell.up _ _ (λ up. if_elim Blobs (call == 0) _ _ (λ z. blobs) (λ z. blobs)) (λ up. blobs)
    stops_blobs (Node n) call keep = layer (Stop (Node n) call keep)
    stops_blobs Manager call keep = layer (Stop Manager call keep)
    stops_blobs (User u) call keep = layer (Stop (User u) call keep)

    restarts_blobs : (actor : ActorId) → Blobs (restarts c actor)
    restarts_blobs (Server s) = still_blobs (server_starts c.servers s c.now c.batch) (server_starts_still c.servers s c.now c.batch).0
    restarts_blobs Map = if_elim Blobs c.map_cell.up _ _ (λ up. blobs) (λ up. blobs)
    restarts_blobs (Node n) = layer (Restart (Node n))
    restarts_blobs Manager = layer (Restart Manager)
    restarts_blobs (User u) = layer (Restart (User u))

    comes_blobs : (event : Event) → IsUnmerged event → Blobs (cluster_after c event)
    comes_blobs (Submit user to body) is = layer (Submit user to body)
    comes_blobs (Deliver number) is = delivers_blobs number (slice_get c.stream_layer.post number) refl
    comes_blobs (Stop actor call keep) is = stops_blobs actor call keep
    comes_blobs (Restart actor) is = restarts_blobs actor
    comes_blobs (Decide e) is = layer (Decide e)
    comes_blobs (GiveUp server range pick) is = servers_blobs (server_gives_up c.servers server range pick) (server_gives_up_tidy c.servers server range pick).0
    comes_blobs (Assign range server until) is =
        if_elim Blobs c.map_cell.up _ _ (λ up. does_if_blobs (assign_fault server c.now (range_at c.map.ranges range)) (assign_rule c.map range server until (range_at c.map.ranges range)) (assign_quiet c.map range server until (range_at c.map.ranges range)))
        (λ up. blobs)
    comes_blobs (Renew range server until) is =
        if_elim Blobs c.map_cell.up _ _ (λ up. does_if_blobs (renew_fault server (range_at c.map.ranges range)) (renew_rule c.map range server until (range_at c.map.ranges range)) (renew_quiet c.map range server until (range_at c.map.ranges range)))
        (λ up. blobs)
    comes_blobs (Moment now) is = if_elim Blobs (nat_lt now c.now) _ _ (λ back. blobs) (λ on. blobs)
    comes_blobs (Checkpoint server range combine) is = servers_blobs (server_checkpoints c.servers server range combine) (server_checkpoints_tidy c.servers server range combine).0
    comes_blobs (Split server range key) is = servers_blobs (server_splits c.servers server range key) (server_splits_tidy c.servers server range key).0
    comes_blobs (Merge server left right) is = absurd is

-- They stay sealed through each event of a cluster but merges.
pub cluster_blobs : (nodes target : ℕ) (moves : List Move) (c : Cluster) (event : Event) → IsUnmerged event → run_moves moves (start nodes target) ≡ c.stream_layer → ExtendNoBlobs c.stream_layer.post → AreOfSplits c.stream_layer → OpensCounted c.stream_layer.post →
    BlobsSealed c.stream_layer → BlobsSealed (cluster_after c event).stream_layer
cluster_blobs nodes target moves c event is leads extends splits opens blobs = comes_blobs c blobs (λ e. blobs_on nodes target moves c.stream_layer leads extends splits opens blobs e) event is

-- So each server that is told of streams that it opens is told of a closed blob stream.
pub told_closed : (c : Cluster) → BlobsSealed c.stream_layer → (s : ℕ) (cell : ServerCell) (st : ServerState) → entry_at c.servers s ≡ Some cell → cell.state ≡ Some st → (range : ℕ) (r : RangeState) → range_of st.ranges range ≡ Some r → (p : Packet) →
    Contains c.stream_layer.post p → p.to ≡ Server s → BlobTold r p.body
told_closed c blobs s cell st at up range r found p there to = by p.body refl
  where
    by : (body : Body) → p.body ≡ body → BlobTold r body
    by (bodies.Stream (streams.Opened q lists)) is = λ waits. blobs.told p there q lists is
    by (bodies.Stream body) is = tt
    by body is = tt
