-- What an event is to the servers: nothing, something of servers, or a list that the manager takes, which is of a split. Of what is built so each was
-- asked for, and each first stream that is there was built.
use Rattle.std.proofs.Common.{◌≡◌, ℕ, zero, suc, Bool, true, false, not, ◌&&◌, ◌||◌, nat_lt, List, [], ◌∷◌, ◌++◌, Option, Some, None, is_none, slice_get, Contains, refl, sym, ap, ◌∙◌, subst, inl, inr, arith, if◌then◌else◌}
use Rattle.std.proofs.lemmas.Bool.{and_parts}
use Rattle.wire.specs.declared.actor.ActorId.{ActorId}
use Rattle.wire.specs.declared.actor.ActorId.TheVariants.{Node, Manager, Map, Server, User}
use Rattle.wire.specs.declared.actor.ReqNo.{ReqNo}
use Rattle.wire.specs.declared.body.Body.{Body}
use Rattle.wire.specs.declared.body.Body.TheVariants as bodies
use Rattle.wire.specs.declared.body.StreamBody.{StreamBody}
use Rattle.wire.specs.declared.body.StreamBody.TheVariants.{MultiModify}
use Rattle.wire.specs.declared.packet.Packet.{Packet}
use Rattle.wire.specs.declared.refusal.Refusal.{Refusal}
use Rattle.wire.specs.declared.streams.Modify.{Modify}
use Rattle.wire.specs.declared.streams.Source.{Source}
use Rattle.wire.specs.declared.streams.StreamName.{StreamName}
use Rattle.streams.specs.Streams.{Stream, Streams, stream_of, built}
use Rattle.model_streams.specs.declared.event.Event.{Event}
use Rattle.model_streams.specs.declared.event.Event.TheVariants.{Submit, Deliver, Stop, Restart, Decide, GiveUp, Assign, Renew, Moment as MomentTold, Checkpoint, Split, Merge}
use Rattle.model_streams.specs.declared.manager_record.ManagerRecord.TheVariants as records
use Rattle.model_streams.specs.Manager.{sealed_lengths, modify_refusal, modify_taken, manager_rule, writes}
use Rattle.model_streams.specs.Outcome.{or_refused}
use Rattle.model_streams.specs.StreamSystem.{StreamSystem, stops_in, stands_in, happens}
use Rattle.model_partition.specs.declared.split_job.SplitJob.{SplitJob}
use Rattle.model_partition.specs.Splits.{all_streams}
use Rattle.model_partition.specs.Cluster.{Cluster, IsUnmerged, cluster_after}
use Rattle.model_histories.specs.ServerRun.{ServerEvent, Takes, GivesUp, Checkpoints, Splits, Stops, Starts, Moment, Builds}
use Rattle.laws_streams.proofs.BuildTests.{Joins, BuildsAll, built_keeps, builds_of}
use Rattle.laws_streams.proofs.Choices.{Each as EachOf, each-contains, contains_get}
use Rattle.laws_map.proofs.Knowing.{each_has}
use Rattle.laws_map.proofs.PostStays.{stays_in_post}
use Rattle.laws_map.proofs.StagesStand.{AsksBuild}
use Rattle.laws_map.proofs.ManagerBirths.{IsIn}
use Rattle.laws_map.proofs.LayerBirths.{BuildsName}
use Rattle.laws_map.proofs.StagesKept.{sides_of}
use Rattle.laws_map.proofs.SplitFacts.{KnowsSplits, IsSide, taken_list}
use Rattle.laws_map.proofs.EventBirths.{event_born}
use Rattle.laws_map.proofs.EventStays.{taken_there}
use Rattle.laws_server_runs.specs.ChildInvariant.{IsBuildOf, IsBuiltBy}
use Rattle.laws_clusters.specs.ServerEvents.{is_written, takes_build, built_by, built_events, packet_events, delivery_events, server_events}
use Rattle.laws_clusters.proofs.SplitPremises.{first_name, AreBuilt}

-- ---- what an event is to the servers

-- the manager takes the list of a split, whose streams are not there
pub record TakesList (c : Cluster) (event : Event) : Type 0 where
  pub job : SplitJob
  pub asks : AsksBuild c.stream_layer.post job
  pub is : server_events c event ≡ Builds job.range job.high ∷ Builds job.range job.low ∷ []
  pub absent : (m : Modify) → Contains (all_streams job) m → stream_of c.stream_layer.catalog.stream m.stream ≡ None
  pub there : (m : Modify) → Contains (all_streams job) m → IsIn (cluster_after c event).stream_layer.catalog.stream m.stream
  -- the fence of each source is the generation that is named with it
  pub fenced : (m : Modify) → Contains (all_streams job) m → (source : Source) → Contains m.sources source → (x : Stream) → stream_of c.stream_layer.catalog.stream source.stream ≡ Some x → x.fence ≡ source.generation

-- a packet that comes to a server was sent to it
abbrev pub IsSent : List Packet → ServerEvent → Type 0
IsSent post (Takes s p) = Contains post p × (p.to ≡ Server s)
IsSent post e = Unit {0}

-- nothing; something of servers; or a list that the manager takes
pub data EventKind (c : Cluster) (event : Event) : Type 0 where
  Quiet : (is : server_events c event ≡ []) → EventKind c event
  OfServers : (e : ServerEvent) (none : (source range : ℕ) → e ≡ Builds source range → ⊥) (sent : IsSent c.stream_layer.post e) (is : server_events c event ≡ e ∷ []) → EventKind c event
  OfList : (takes : TakesList c event) → EventKind c event

member_absent : (sealed : ℕ → Option ℕ) (list : List Modify) (ss : Streams) → BuildsAll sealed ss list → (m : Modify) → Contains list m → stream_of ss m.stream ≡ None
member_absent sealed [] ss all m (i, less, is) = absurd (omega (arith, less))
member_absent sealed (n ∷ list) ss all m (zero, less, is) = subst (λ (y : Modify). stream_of ss y.stream ≡ None) is all.0.absent
member_absent sealed (n ∷ list) ss all m (suc i, less, is) = by (stream_of ss m.stream) refl (member_absent sealed list (built ss n) all.1 m (i, omega (arith, less), is))
  where
    by : (o : Option Stream) → stream_of ss m.stream ≡ o → stream_of (built ss n) m.stream ≡ None → o ≡ None
    by None e later = refl
    by (Some x) e later = absurd (let z : None ≡ Some x = sym later ∙ built_keeps sealed ss n all.0 m.stream x e in cc)

member_fenced : (sealed : ℕ → Option ℕ) (list : List Modify) (ss : Streams) → BuildsAll sealed ss list → (m : Modify) → Contains list m → (source : Source) → Contains m.sources source → (x : Stream) → stream_of ss source.stream ≡ Some x → x.fence ≡ source.generation
member_fenced sealed [] ss all m (i, less, is) source among x there = absurd (omega (arith, less))
member_fenced sealed (n ∷ list) ss all m (zero, less, is) source among x there =
    let j : Joins sealed ss source = each-contains (Joins sealed ss) m.sources source (subst (λ (y : Modify). EachOf (Joins sealed ss) y.sources) is all.0.sources) among in
    let same : Some x ≡ Some j.stream = sym there ∙ j.there in
    let one : x ≡ j.stream = cc in
    ap (λ (y : Stream). y.fence) one ∙ j.fence
member_fenced sealed (n ∷ list) ss all m (suc i, less, is) source among x there = member_fenced sealed list (built ss n) all.1 m (i, omega (arith, less), is) source among x (built_keeps sealed ss n all.0 source.stream x there)

none_of : (o : Option Refusal) → is_none o ≡ true → o ≡ None
none_of None t = refl
none_of (Some why) t = absurd cc

module _ (c : Cluster) (k : KnowsSplits c) where
  abbrev w : StreamSystem
  w = c.stream_layer

  written_is : (p : Packet) (list : List Modify) (q : ReqNo) → p.body ≡ bodies.Stream (MultiModify list q) → modify_refusal w.catalog p list ≡ None → (manager_rule w.catalog p p.body).written ≡ writes (records.MultiModify list)
  written_is p list q body free = ap (λ b. (manager_rule w.catalog p b).written) body ∙ ap (λ o. (or_refused w.catalog Manager p q o (modify_taken w.catalog p list q)).written) free

  -- the manager takes it
  list_kind : (number : ℕ) (p : Packet) → slice_get w.post number ≡ Some p → p.to ≡ Manager → (list : List Modify) (q : ReqNo) → p.body ≡ bodies.Stream (MultiModify list q) → takes_build w p list ≡ true → TakesList c (Deliver number)
  list_kind number p at to list q body takes =
      let (job, is, asks) = taken_list c k p (contains_get w.post number p at) list q body in
      let parts = and_parts w.manager_cell.up (is_none (modify_refusal w.catalog p list) && is_written w.manager_cell (writes (records.MultiModify list))) takes in
      let free = none_of (modify_refusal w.catalog p list) (and_parts (is_none (modify_refusal w.catalog p list)) (is_written w.manager_cell (writes (records.MultiModify list))) parts.1).0 in
      record {
        job = job;
        asks = asks;
        is = ap (delivery_events c) at ∙ ap (λ a. packet_events c a p) to ∙ ap (λ b. built_events (built_by w p b)) body ∙ ap (λ t. built_events (if t then list else [])) takes ∙ ap built_events is;
        fenced = λ m among. member_fenced (sealed_lengths w.catalog) list w.catalog.stream (builds_of w.catalog p list free).1 m (subst (λ l. Contains l m) (sym is) among);
        absent = λ m among. member_absent (sealed_lengths w.catalog) list w.catalog.stream (builds_of w.catalog p list free).1 m (subst (λ l. Contains l m) (sym is) among);
        there = λ m among. taken_there c p list q body free number at to parts.0 (ap (λ o. not (stops_in w.manager_cell o) || stands_in w.manager_cell) (written_is p list q body free) ∙ (and_parts (is_none (modify_refusal w.catalog p list)) (is_written w.manager_cell (writes (records.MultiModify list))) parts.1).1) m (subst (λ l. Contains l m) (sym is) among);
      }

  delivered_kind : (number : ℕ) (o : Option Packet) → slice_get w.post number ≡ o → EventKind c (Deliver number)
  delivered_kind number None at = Quiet (ap (delivery_events c) at)
  delivered_kind number (Some p) at = go p.to refl
    where
      shown : (to : ActorId) → p.to ≡ to → server_events c (Deliver number) ≡ packet_events c to p
      shown to is = ap (delivery_events c) at ∙ ap (λ a. packet_events c a p) is

      by_list : p.to ≡ Manager → (list : List Modify) (q : ReqNo) → p.body ≡ bodies.Stream (MultiModify list q) → (t : Bool) → takes_build w p list ≡ t → EventKind c (Deliver number)
      by_list to list q body true takes = OfList (list_kind number p at to list q body takes)
      by_list to list q body false takes = Quiet (shown Manager to ∙ ap (λ b. built_events (built_by w p b)) body ∙ ap (λ t. built_events (if t then list else [])) takes)

      by_stream : p.to ≡ Manager → (body : StreamBody) → p.body ≡ bodies.Stream body → EventKind c (Deliver number)
      by_stream to (MultiModify list q) body = by_list to list q body (takes_build w p list) refl
      by_stream to other body = Quiet (shown Manager to ∙ ap (λ b. built_events (built_by w p b)) body)

      by_body : p.to ≡ Manager → (body : Body) → p.body ≡ body → EventKind c (Deliver number)
      by_body to (bodies.Stream stream) body = by_stream to stream body
      by_body to other body = Quiet (shown Manager to ∙ ap (λ b. built_events (built_by w p b)) body)

      go : (to : ActorId) → p.to ≡ to → EventKind c (Deliver number)
      go (Server s) is = OfServers (Takes s p) (λ source range e. cc) (contains_get w.post number p at, is) (shown (Server s) is)
      go Manager is = by_body is p.body refl
      go (Node n) is = Quiet (shown (Node n) is)
      go Map is = Quiet (shown Map is)
      go (User u) is = Quiet (shown (User u) is)

  stopped_kind : (actor : ActorId) (call : ℕ) (keep : Bool) → EventKind c (Stop actor call keep)
  stopped_kind (Server s) call keep = OfServers (Stops s call) (λ source range e. cc) tt refl
  stopped_kind (Node n) call keep = Quiet refl
  stopped_kind Manager call keep = Quiet refl
  stopped_kind Map call keep = Quiet refl
  stopped_kind (User u) call keep = Quiet refl

  started_kind : (actor : ActorId) → EventKind c (Restart actor)
  started_kind (Server s) = OfServers (Starts s c.now c.batch) (λ source range e. cc) tt refl
  started_kind (Node n) = Quiet refl
  started_kind Manager = Quiet refl
  started_kind Map = Quiet refl
  started_kind (User u) = Quiet refl

  moment_kind : (now : ℕ) (b : Bool) → nat_lt now c.now ≡ b → EventKind c (MomentTold now)
  moment_kind now true e = Quiet (ap (λ t. if t then [] else Moment now ∷ []) e)
  moment_kind now false e = OfServers (Moment now) (λ source range e. cc) tt (ap (λ t. if t then [] else Moment now ∷ []) e)

  pub event_kind : (event : Event) → EventKind c event
  event_kind (Submit user to body) = Quiet refl
  event_kind (Deliver number) = delivered_kind number (slice_get w.post number) refl
  event_kind (Stop actor call keep) = stopped_kind actor call keep
  event_kind (Restart actor) = started_kind actor
  event_kind (Decide e) = Quiet refl
  event_kind (GiveUp server range pick) = OfServers (GivesUp server range pick) (λ source range e. cc) tt refl
  event_kind (Assign range server until) = Quiet refl
  event_kind (Renew range server until) = Quiet refl
  event_kind (MomentTold now) = moment_kind now (nat_lt now c.now) refl
  event_kind (Checkpoint server range combine) = OfServers (Checkpoints server range combine) (λ source range e. cc) tt refl
  event_kind (Split server range key) = OfServers (Splits server range key) (λ source range e. cc) tt refl
  event_kind (Merge server one two) = Quiet refl

  -- ---- what was built by then

  module _ (event : Event) (unmerged : IsUnmerged event) (coming : List ServerEvent) (b : AreBuilt (IsBuiltBy coming) c) where
    abbrev d : Cluster
    d = cluster_after c event

    asks_later : (job : SplitJob) → AsksBuild w.post job → AsksBuild d.stream_layer.post job
    asks_later job (q, a) = (q, record { packet = a.packet; sent = stays_in_post c a.packet a.sent event; is = a.is })

    old_asked : (child : ℕ) → IsBuiltBy coming child → (job : SplitJob) × AsksBuild d.stream_layer.post job × IsSide child job
    old_asked child built = let (job, asks, side) = b.asked child built in (job, asks_later job asks, side)

    now_asked : (job : SplitJob) → AsksBuild w.post job → (child n : ℕ) → IsSide n job → IsBuildOf child (Builds job.range n) → (job : SplitJob) × AsksBuild d.stream_layer.post job × IsSide child job
    now_asked job asks child n side (source, is) = let same : n ≡ child = cc in (job, asks_later job asks, subst (λ i. IsSide i job) same side)

    asked_by : (child : ℕ) (more : List ServerEvent) → EventKind c event → server_events c event ≡ more → IsBuiltBy (more ++ coming) child → (job : SplitJob) × AsksBuild d.stream_layer.post job × IsSide child job
    asked_by child more (Quiet none) is built = old_asked child (subst (λ l. IsBuiltBy (l ++ coming) child) (sym is ∙ none) built)
    asked_by child more (OfServers e none sent one) is built = elim (subst (λ l. IsBuiltBy (l ++ coming) child) (sym is ∙ one) built) [
      | inl now ↦ absurd (none now.0 child now.1)
      | inr old ↦ old_asked child old
    ]
    asked_by child more (OfList t) is built = elim (subst (λ l. IsBuiltBy (l ++ coming) child) (sym is ∙ t.is) built) [
      | inl now ↦ now_asked t.job t.asks child t.job.high (inr refl) now
      | inr rest ↦ elim rest [
        | inl now ↦ now_asked t.job t.asks child t.job.low (inl refl) now
        | inr old ↦ old_asked child old
      ]
    ]

    -- what was built was
    built_more : (more : List ServerEvent) (child : ℕ) → IsBuiltBy coming child → IsBuiltBy (more ++ coming) child
    built_more [] child built = built
    built_more (e ∷ more) child built = inr (built_more more child built)

    -- a stream that the event brings is one that it builds
    name_built : (child : ℕ) → BuildsName w event (happens w event) (first_name child) → IsBuiltBy (server_events c event ++ coming) child
    unfolding list_kind
    name_built child n =
        let p = n.packet in
        let list = n.listed.list in
        let body = n.listed.body in
        let rule : (manager_rule w.catalog p p.body).written ≡ writes (records.MultiModify list) =
        ap (λ b. (manager_rule w.catalog p b).written) body ∙ ap (λ o. (or_refused w.catalog Manager p n.listed.request o (modify_taken w.catalog p list n.listed.request)).written) n.listed.free in
        let takes : takes_build w p list ≡ true =
        ap (λ u. u && (is_none (modify_refusal w.catalog p list) && is_written w.manager_cell (writes (records.MultiModify list)))) n.up
        ∙ ap (λ o. is_none o && is_written w.manager_cell (writes (records.MultiModify list))) n.listed.free
        ∙ ap (is_written w.manager_cell) (sym rule) ∙ n.written in
        let t = list_kind n.number p n.at n.to list n.listed.request body takes in
        let same = taken_list c k p (contains_get w.post n.number p n.at) list n.listed.request body in
        subst (λ e. IsBuiltBy (server_events c e ++ coming) child) (sym n.delivers)
        (subst (λ l. IsBuiltBy (l ++ coming) child) (sym t.is)
        (of_side t.job (subst (λ (s : StreamName). IsSide s.range t.job) n.listed.is (each_has (λ (m : Modify). IsSide m.stream.range t.job) (all_streams t.job) n.listed.entry (sides_of t.job) (subst (λ l. Contains l n.listed.entry) same.1 n.listed.among)))))
      where
        of_side : (job : SplitJob) → IsSide child job → IsBuiltBy (Builds job.range job.high ∷ Builds job.range job.low ∷ coming) child
        of_side job (inr high) = inl (job.range, ap (Builds job.range) (sym high))
        of_side job (inl low) = inr (inl (job.range, ap (Builds job.range) (sym low)))

    pub built_on : AreBuilt (IsBuiltBy (server_events c event ++ coming)) (cluster_after c event)
    built_on = record {
      asked = λ child built. asked_by child (server_events c event) (event_kind event) refl built;
      there = λ child here. elim (event_born c k event unmerged (first_name child) here) [
        | inl old ↦ elim (b.there child old) [ inl small ↦ inl small | inr built ↦ inr (built_more (server_events c event) child built) ]
        | inr now ↦ elim now [ inl own ↦ inl (omega (arith, own)) | inr builds ↦ inr (name_built child builds) ]
      ];
    }
