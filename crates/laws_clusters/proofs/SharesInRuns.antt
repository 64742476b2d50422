-- In a run in which nothing is owed of its events, each load that stood in the log of a range when another's streams were built of its own is a load
-- of the same copies for both.
use Rattle.std.proofs.Common.{◌≡◌, ◌⊎◌, ℕ, Bool, true, false, nat_lt, if◌then◌else◌, List, [], ◌∷◌, ◌++◌, Option, Some, None, slice_get, refl, sym, ap, ◌∙◌, subst, inl, inr, append_assoc}
use Rattle.std.proofs.lemmas.List.{append_cancel_right}
use Rattle.wire.specs.declared.actor.ActorId.{ActorId}
use Rattle.wire.specs.declared.actor.ActorId.TheVariants.{Node, Manager, Map, Server, User}
use Rattle.wire.specs.declared.packet.Packet.{Packet}
use Rattle.replica.specs.Groups.{Group}
use Rattle.model_streams.specs.declared.event.Event.{Event}
use Rattle.model_streams.specs.declared.event.Event.TheVariants.{Submit, Deliver, Stop, Restart, Decide, GiveUp, Assign, Renew, Moment as MomentTold, Checkpoint, Split, Merge}
use Rattle.model_streams.specs.StreamSystem.{delivered, delivered_if, happens}
use Rattle.model_partition.specs.Cluster.{Cluster, IsUnmerged, delivered_to, delivers, cluster_after}
use Rattle.model_partition.specs.Past.{Bytes}
use Rattle.model_histories.specs.ServedTables.{StreamsInOrder}
use Rattle.model_histories.specs.ServerRun.{ServerRun, ServerEvent, Takes, GivesUp, Checkpoints, Splits, Stops, Starts, Moment, Builds, run_of, log_name}
use Rattle.model_histories.specs.Story.{Placed, Showed, event_at}
use Rattle.model_histories.specs.TableContents.{AllTellRightly}
use Rattle.laws_clusters.specs.ServerEvents.{built_events, packet_events, delivery_events, stop_events, start_events, server_events}
use Rattle.laws_clusters.proofs.BuildEvents.{built_at, built_if, built_in}
use Rattle.laws_clusters.proofs.BuiltRanges.{NowShares, builds_share}
use Rattle.laws_clusters.proofs.ClusterEvents.{run_events, EventOwes, comes_on}
use Rattle.laws_clusters.proofs.Generations.{generation_at}
use Rattle.laws_clusters.proofs.GrownLists.{GrewFrom}
use Rattle.laws_clusters.proofs.Invariant.{Machines, Standing, Bases}
use Rattle.laws_clusters.proofs.SharedLogs.{SharesStreams, built_share, share_on, as_it_stands, rebased}
use Rattle.laws_clusters.proofs.SplitNews.{BuildsOfSplits}
use Rattle.laws_clusters.proofs.StreamOrders.{in_order, l_shared}

-- ---- lists

-- of two ends of a list one is an end of the other
pub ends_of_one : {A : Type 0} (xs u ys v : List A) → xs ++ u ≡ ys ++ v → ((k : List A) × (u ≡ k ++ v)) ⊎ ((k : List A) × (v ≡ k ++ u))
ends_of_one [] u ys v e = inl (ys, e)
ends_of_one (x ∷ xs) u [] v e = inr (x ∷ xs, sym e)
ends_of_one (x ∷ xs) u (y ∷ ys) v e = ends_of_one xs u ys v (let t : xs ++ u ≡ ys ++ v = cc in t)

-- ---- events that build nothing

abbrev HasNoBuild : List ServerEvent → Type 0
HasNoBuild [] = Unit {0}
HasNoBuild (Builds source range ∷ events) = ⊥
HasNoBuild (event ∷ events) = HasNoBuild events

not_built : (late early : List ServerEvent) (source range : ℕ) → HasNoBuild (late ++ Builds source range ∷ early) → ⊥
not_built [] early source range none = none
not_built (Builds other built ∷ late) early source range none = none
not_built (Takes server p ∷ late) early source range none = not_built late early source range none
not_built (GivesUp server other pick ∷ late) early source range none = not_built late early source range none
not_built (Checkpoints server other combine ∷ late) early source range none = not_built late early source range none
not_built (Splits server other key ∷ late) early source range none = not_built late early source range none
not_built (Stops server call ∷ late) early source range none = not_built late early source range none
not_built (Starts server now batch ∷ late) early source range none = not_built late early source range none
not_built (Moment now ∷ late) early source range none = not_built late early source range none

no_build_shares : (generation : ℕ → ℕ) (y : ServerRun) (machines : ℕ → Machines generation) (events : List ServerEvent) → HasNoBuild events → NowShares generation y machines events
no_build_shares generation y machines events none late early source range e = absurd (not_built late early source range (subst HasNoBuild e none))

-- a packet comes to the manager
abbrev ManagerTakes : Cluster → Event → Type 0
ManagerTakes c event = (number : ℕ) × (p : Packet) × (event ≡ Deliver number) × (slice_get c.stream_layer.post number ≡ Some p) × (p.to ≡ Manager)

-- nothing else builds
who_builds : (c : Cluster) (event : Event) → HasNoBuild (server_events c event) ⊎ ManagerTakes c event
who_builds c (Submit user to body) = inl tt
who_builds c (Deliver number) = go (slice_get c.stream_layer.post number) refl
  where
    by : (p : Packet) → slice_get c.stream_layer.post number ≡ Some p → (to : ActorId) → p.to ≡ to → HasNoBuild (packet_events c to p) ⊎ ManagerTakes c (Deliver number)
    by p at (Server s) is = inl tt
    by p at Manager is = inr (number, p, refl, at, is)
    by p at (Node n) is = inl tt
    by p at Map is = inl tt
    by p at (User u) is = inl tt

    go : (o : Option Packet) → slice_get c.stream_layer.post number ≡ o → HasNoBuild (delivery_events c o) ⊎ ManagerTakes c (Deliver number)
    go None at = inl tt
    go (Some p) at = by p at p.to refl
who_builds c (Stop actor call keep) = by actor
  where
    by : (actor : ActorId) → HasNoBuild (stop_events actor call) ⊎ ManagerTakes c (Stop actor call keep)
    by (Server s) = inl tt
    by (Node n) = inl tt
    by Manager = inl tt
    by Map = inl tt
    by (User u) = inl tt
who_builds c (Restart actor) = by actor
  where
    by : (actor : ActorId) → HasNoBuild (start_events c actor) ⊎ ManagerTakes c (Restart actor)
    by (Server s) = inl tt
    by (Node n) = inl tt
    by Manager = inl tt
    by Map = inl tt
    by (User u) = inl tt
who_builds c (Decide e) = inl tt
who_builds c (GiveUp server range pick) = inl tt
who_builds c (Assign range server until) = inl tt
who_builds c (Renew range server until) = inl tt
who_builds c (MomentTold now) = inl (by (nat_lt now c.now))
  where
    by : (b : Bool) → HasNoBuild (if b then [] else Moment now ∷ [])
    by true = tt
    by false = tt
who_builds c (Checkpoint server range combine) = inl tt
who_builds c (Split server range key) = inl tt
who_builds c (Merge server left right) = inl tt

module _ (nodes target batch count : ℕ) where
  abbrev run : List ServerEvent → ServerRun
  run coming = run_of batch count coming

  -- ---- one event

  -- the cluster stands when these came behind what had come, and what they built has the logs of what it was built of
  abbrev pub StandsShared : Bases generation_at → List ServerEvent → Cluster → List ServerEvent → Type 0
  StandsShared base coming c events = (x : Standing generation_at nodes target base c (run (events ++ coming))) × NowShares generation_at (run coming) x.machines events

  module _ {base : Bases generation_at} (c : Cluster) (coming : List ServerEvent) (x : Standing generation_at nodes target base c (run coming)) where
    manager_shares : (number : ℕ) → BuildsOfSplits c (Deliver number) → (p : Packet) → slice_get c.stream_layer.post number ≡ Some p → p.to ≡ Manager → StandsShared base coming (cluster_after c (Deliver number)) (server_events c (Deliver number))
    manager_shares number news p at is =
        subst (λ o. StandsShared base coming (delivers c o) (delivery_events c o)) (sym at)
        (subst (λ to. StandsShared base coming (delivered_to c p to) (packet_events c to p)) (sym is)
        (subst (λ l. StandsShared base coming (record c { stream_layer = delivered c.stream_layer p Manager }) (built_events l)) (ap (built_if c.stream_layer) at ∙ ap (built_at c.stream_layer p) is)
        (subst (λ z. StandsShared base coming (record c { stream_layer = z }) es) (ap (delivered_if c.stream_layer) at ∙ ap (delivered c.stream_layer p) is)
        (subst (λ z. (u : Standing generation_at nodes target base (record c { stream_layer = happens c.stream_layer (Deliver number) }) z) × NowShares generation_at (run coming) u.machines es) (run_events batch count es coming)
        (builds_share generation_at nodes target c (run coming) x (Deliver number) news)))))
      where
        es : List ServerEvent
        es = built_events (built_in c.stream_layer (Deliver number))

    pub comes_shared : (event : Event) → IsUnmerged event → BuildsOfSplits c event → EventOwes nodes target batch count c coming x event → StandsShared base coming (cluster_after c event) (server_events c event)
    comes_shared event unmerged news owes = by (who_builds c event)
      where
        by : HasNoBuild (server_events c event) ⊎ ManagerTakes c event → StandsShared base coming (cluster_after c event) (server_events c event)
        by (inl none) = (
          comes_on nodes target batch count c coming x event unmerged news owes,
          no_build_shares generation_at (run coming) (comes_on nodes target batch count c coming x event unmerged news owes).machines (server_events c event) none,
        )
        by (inr (number, p, is, at, to)) = subst (λ e. StandsShared base coming (cluster_after c e) (server_events c e)) (sym is) (manager_shares number (subst (BuildsOfSplits c) is news) p at to)

  -- ---- all that came

  -- each range whose streams were built of another's has the streams of that as they stood then
  abbrev pub AllShare : (ℕ → Machines generation_at) → List ServerEvent → Type 0
  AllShare machines coming =
      (late early : List ServerEvent) (source range : ℕ) → coming ≡ late ++ Builds source range ∷ early → SharesStreams generation_at machines source range (run early)

  share_more : (machines later : ℕ → Machines generation_at) → ((range : ℕ) → GrewFrom (machines range).m (later range).m × GrewFrom (machines range).l (later range).l) → (coming events : List ServerEvent) → AllShare machines coming → NowShares generation_at (run coming) later events →
      AllShare later (events ++ coming)
  share_more machines later grows coming events old now late early source range e = by (ends_of_one events coming late (Builds source range ∷ early) e)
    where
      before : (k : List ServerEvent) → coming ≡ k ++ Builds source range ∷ early → SharesStreams generation_at later source range (run early)
      before k is = share_on generation_at machines later grows source range (run early) (old k early source range is)

      by : ((k : List ServerEvent) × (coming ≡ k ++ Builds source range ∷ early)) ⊎ ((k : List ServerEvent) × (Builds source range ∷ early ≡ k ++ coming)) → SharesStreams generation_at later source range (run early)
      by (inl (k, is)) = before k is
      by (inr ([], is)) = before [] (sym is)
      by (inr (b ∷ k, is)) =
          let early_is : early ≡ k ++ coming = cc in
          let events_are : events ≡ late ++ Builds source range ∷ k =
          append_cancel_right events (late ++ Builds source range ∷ k) coming (e ∙ ap (λ z. late ++ Builds source range ∷ z) early_is ∙ sym (append_assoc late (Builds source range ∷ k) coming)) in
          subst (SharesStreams generation_at later source range) (run_events batch count k coming ∙ ap run (sym early_is)) (built_share generation_at later source range _ (now late k source range events_are))

  pub record StandsSharing (c : Cluster) (coming : List ServerEvent) : Type 0 where
    pub base : Bases generation_at
    pub stands : Standing generation_at nodes target base c (run coming)
    -- it has grown from itself so far
    pub grown : (range : ℕ) → (base.metadata range ≡ (stands.machines range).m) × (base.logs range ≡ (stands.machines range).l)
    -- and no split is in the midst of a step
    pub calm : base.midst ≡ None
    pub shares : AllShare stands.machines coming

  -- what nothing came to shares nothing
  pub begun_sharing : {base : Bases generation_at} (c : Cluster) → base.midst ≡ None → Standing generation_at nodes target base c (run []) → StandsSharing c []
  begun_sharing {base} c calm x = record {
    base = as_it_stands generation_at x.machines base.midst;
    stands = rebased generation_at nodes target c (run []) x;
    grown = λ range. (refl, refl);
    calm = calm;
    shares = none;
  }
    where
      none : (late early : List ServerEvent) (source range : ℕ) → [] ≡ late ++ Builds source range ∷ early → SharesStreams generation_at x.machines source range (run early)
      none [] early source range e = absurd cc
      none (event ∷ late) early source range e = absurd cc

  -- an event of which nothing is owed
  pub sharing_on : (c : Cluster) (coming : List ServerEvent) (x : StandsSharing c coming) (event : Event) → IsUnmerged event → BuildsOfSplits c event → EventOwes nodes target batch count c coming x.stands event →
      StandsSharing (cluster_after c event) (server_events c event ++ coming)
  sharing_on c coming x event unmerged news owes =
      let next = comes_shared c coming x.stands event unmerged news owes in
      record {
        base = as_it_stands generation_at next.0.machines x.base.midst;
        stands = rebased generation_at nodes target (cluster_after c event) (run (server_events c event ++ coming)) next.0;
        grown = λ range. (refl, refl);
        calm = x.calm;
        shares = share_more x.stands.machines next.0.machines (λ range. (
          subst (λ l. GrewFrom l (next.0.machines range).m) (x.grown range).0 (next.0.grows range).0,
          subst (λ l. GrewFrom l (next.0.machines range).l) (x.grown range).1 (next.0.grows range).1,
        )) coming (server_events c event) x.shares next.1;
      }

  -- its machines have grown from those before, and what the event built has those of what it was built of
  pub record HasGone (c : Cluster) (coming : List ServerEvent) (x : StandsSharing c coming) (event : Event) (next : StandsSharing (cluster_after c event) (server_events c event ++ coming)) : Type 0 where
    pub grows : (range : ℕ) → GrewFrom (x.stands.machines range).m (next.stands.machines range).m × GrewFrom (x.stands.machines range).l (next.stands.machines range).l
    pub now : NowShares generation_at (run coming) next.stands.machines (server_events c event)

  pub sharing_gone : (c : Cluster) (coming : List ServerEvent) (x : StandsSharing c coming) (event : Event) (unmerged : IsUnmerged event) (news : BuildsOfSplits c event) (owes : EventOwes nodes target batch count c coming x.stands event) →
      HasGone c coming x event (sharing_on c coming x event unmerged news owes)
  unfolding sharing_on
  sharing_gone c coming x event unmerged news owes =
      let next = comes_shared c coming x.stands event unmerged news owes in
      record {
        grows = λ range. (
          subst (λ l. GrewFrom l (next.0.machines range).m) (x.grown range).0 (next.0.grows range).0,
          subst (λ l. GrewFrom l (next.0.machines range).l) (x.grown range).1 (next.0.grows range).1,
        );
        now = next.1;
      }

  -- ---- orders

  module _ (c : Cluster) (coming : List ServerEvent) (x : StandsSharing c coming) (texts : ℕ → Bytes) (all : AllTellRightly texts c.stream_layer.notes) where
    abbrev pub order : (range : ℕ) → StreamsInOrder texts range (run coming)
    order range =
        in_order generation_at (run coming) x.stands.machines (λ r. (x.stands.beside r).m_are) (λ r. (x.stands.beside r).l_are) x.stands.stories texts c.stream_layer.notes all range (x.stands.observed range)
        (x.stands.acked range)

    -- each load that stood in the log of the source then is one of the same copies for both
    pub loads_shared : (late early : List ServerEvent) (source range : ℕ) → coming ≡ late ++ Builds source range ∷ early → (l g start end : ℕ) (groups : List (Placed Group)) →
        event_at ((run early).story (log_name source)) l ≡ Some (Showed g start end groups) → (order range).log.copies l ≡ (order source).log.copies l
    loads_shared late early source range is l g start end groups at =
        let s = (x.shares late early source range is).log in
        l_shared generation_at (run coming) x.stands.machines (λ r. (x.stands.beside r).m_are) (λ r. (x.stands.beside r).l_are) x.stands.stories source range s.moves s.source_grew.0 s.built_grew.0 s.source_grew.1 s.built_grew.1
        l g start end groups (subst (λ z. event_at z l ≡ Some (Showed g start end groups)) (sym s.story_is) at)

    -- so it is where the streams were built before what came until some moment
    pub shared_until : (after until : List ServerEvent) → coming ≡ after ++ until → (source range : ℕ) (late early : List ServerEvent) → until ≡ late ++ Builds source range ∷ early → (l g start end : ℕ) (groups : List (Placed Group)) →
        event_at ((run early).story (log_name source)) l ≡ Some (Showed g start end groups) → (order range).log.copies l ≡ (order source).log.copies l
    shared_until after until all_are source range late early is =
        loads_shared (after ++ late) early source range (all_are ∙ ap (λ z. after ++ z) is ∙ sym (append_assoc after late (Builds source range ∷ early)))
