-- What comes to the servers of a run without merges builds streams as is premised of the two ranges of a split, and at each moment these are so; where
-- nothing is done with a range's streams, and nothing told of it, until it may be held.
use Rattle.std.proofs.Common.{◌≡◌, ℕ, Bool, true, false, ◌==◌, List, [], ◌∷◌, ◌++◌, Option, Some, None, Contains, refl, sym, ap, ◌∙◌, subst, inl, inr, arith, if◌then◌else◌}
use Rattle.std.proofs.lemmas.Bool.{eqb-true}
use Rattle.wire.specs.declared.note.Note.{Note}
use Rattle.wire.specs.declared.actor.ActorId.TheVariants.{Server}
use Rattle.wire.specs.declared.packet.Packet.{Packet}
use Rattle.wire.specs.declared.streams.StreamKind.{StreamKind}
use Rattle.wire.specs.declared.streams.StreamName.{StreamName}
use Rattle.streams.specs.Streams.{Stream, stream_of}
use Rattle.model_streams.specs.declared.event.Event.{Event}
use Rattle.model_streams.specs.Maps.{entry_at}
use Rattle.model_partition.specs.Past.{Bytes}
use Rattle.model_partition.specs.Server.{ServerState}
use Rattle.model_partition.specs.Servers.{ServerCell}
use Rattle.model_partition.specs.Cluster.{Cluster, IsUnmerged, AreUnmerged, cluster_after, first_cluster}
use Rattle.model_histories.specs.Log.{only}
use Rattle.model_histories.specs.ServedTables.{AreSeenAs}
use Rattle.model_histories.specs.ServerRun.{ServerRun, ServerEvent, Takes, GivesUp, Checkpoints, Splits, Stops, Starts, Moment, Builds, run_of, after_event, cell_effect, server_effect, stream_named, own_or}
use Rattle.laws_map.proofs.GivenNumbers.{first_stream}
use Rattle.laws_map.proofs.StagesStand.{AsksBuild}
use Rattle.laws_map.proofs.ManagerBirths.{IsIn}
use Rattle.laws_map.proofs.EventStays.{event_stays}
use Rattle.laws_map.proofs.SplitFacts.{KnowsSplits, IsSide, MayHold, event_knows, event_may, first_knows, asked_apart}
use Rattle.laws_server_runs.specs.ChildInvariant.{AreChildren, IsBuildOf, IsBuiltBy, MayBuild, BuildsSo, AreBornSo}
use Rattle.laws_clusters.specs.ServerEvents.{server_events, server_events_after}
use Rattle.laws_clusters.proofs.ShownNotes.{event_goes}
use Rattle.laws_clusters.proofs.SplitPremises.{first_name, AreBuilt, are_children, new_may, new_held, new_asked}
use Rattle.laws_clusters.proofs.UntouchedStreams.{IsElsewhere, effect_story, server_apart}
use Rattle.laws_clusters.proofs.BuiltInRuns.{IsSent, TakesList, EventKind, Quiet, OfServers, OfList, event_kind, built_on}

-- Until a server may hold a range, nothing is told of it; and while its first stream is not there either nothing was done with its streams.
pub record Fresh (texts : ℕ → Bytes) (batch count : ℕ) (coming : List ServerEvent) (c : Cluster) (k : KnowsSplits c) : Type 0 where
  pub story : (n : ℕ) → (MayHold c k n → ⊥) → stream_of c.stream_layer.catalog.stream (first_name n) ≡ None → (kind : StreamKind) → (run_of batch count coming).story (stream_named n kind) ≡ []
  pub untold : (n : ℕ) → (MayHold c k n → ⊥) → (notes : List Note) → AreSeenAs texts (run_of batch count coming).notes notes → only n notes ≡ []

-- ---- the stories

-- what another than a packet to a server leaves
quiet_story : (x : ServerRun) (e : ServerEvent) → ((source range : ℕ) → e ≡ Builds source range → ⊥) → (name : StreamName) → ((s : ℕ) (p : Packet) → e ≡ Takes s p → IsElsewhere name (cell_effect p (entry_at x.servers s))) → (after_event x e).story name ≡ x.story name
quiet_story x (Takes s p) none name apart = effect_story name s x (cell_effect p (entry_at x.servers s)) (apart s p refl)
quiet_story x (GivesUp s range pick) none name apart = refl
quiet_story x (Checkpoints s range combine) none name apart = refl
quiet_story x (Splits s range key) none name apart = refl
quiet_story x (Stops s call) none name apart = refl
quiet_story x (Starts s now b) none name apart = refl
quiet_story x (Moment now) none name apart = refl
quiet_story x (Builds source range) none name apart = absurd (none source range refl)

-- streams that are built for another range
built_story : (source range : ℕ) (x : ServerRun) (n : ℕ) (kind : StreamKind) → (n ≡ range → ⊥) → (after_event x (Builds source range)).story (stream_named n kind) ≡ x.story (stream_named n kind)
built_story source range x n kind apart = go (n == range) refl
  where
    go : (b : Bool) → (n == range) ≡ b → (after_event x (Builds source range)).story (stream_named n kind) ≡ x.story (stream_named n kind)
    go true e = absurd (apart (eqb-true n range e))
    go false e = ap (λ u. if u then own_or (x.story (stream_named n kind)) (x.story (stream_named source kind)) else x.story (stream_named n kind)) e

-- a stream that is not there after an event was not there before it
pub absent_before : (c : Cluster) (event : Event) (name : StreamName) → stream_of (cluster_after c event).stream_layer.catalog.stream name ≡ None → stream_of c.stream_layer.catalog.stream name ≡ None
absent_before c event name absent = go (stream_of c.stream_layer.catalog.stream name) refl
  where
    go : (o : Option Stream) → stream_of c.stream_layer.catalog.stream name ≡ o → o ≡ None
    go None is = refl
    go (Some z) is = let there = event_stays c event name (z, is) in let e : None ≡ Some there.0 = sym absent ∙ there.1 in absurd cc

-- each event leaves the stories of what nobody may hold empty
pub story_on : (batch count : ℕ) (c : Cluster) (k : KnowsSplits c) (coming : List ServerEvent) → c.servers ≡ (run_of batch count coming).servers → (event : Event) (unmerged : IsUnmerged event) →
    ((n : ℕ) → (MayHold c k n → ⊥) → stream_of c.stream_layer.catalog.stream (first_name n) ≡ None → (kind : StreamKind) → (run_of batch count coming).story (stream_named n kind) ≡ []) →
    (n : ℕ) → (MayHold (cluster_after c event) (event_knows c event unmerged k) n → ⊥) → stream_of (cluster_after c event).stream_layer.catalog.stream (first_name n) ≡ None → (kind : StreamKind) → (run_of batch count (server_events c event ++ coming)).story (stream_named n kind) ≡ []
story_on batch count c k coming same event unmerged old n none absent kind = by (event_kind c k event)
  where
    was_none : MayHold c k n → ⊥
    was_none m = none (event_may c event unmerged k n m)

    not_in : IsIn (cluster_after c event).stream_layer.catalog.stream (first_name n) → ⊥
    not_in (z, is) = let e : None ≡ Some z = sym absent ∙ is in cc

    was_absent : stream_of c.stream_layer.catalog.stream (first_name n) ≡ None
    was_absent = absent_before c event (first_name n) absent

    before : (run_of batch count coming).story (stream_named n kind) ≡ []
    before = old n was_none was_absent kind

    elsewhere : (s : ℕ) (p : Packet) → Contains c.stream_layer.post p → p.to ≡ Server s → IsElsewhere (stream_named n kind) (cell_effect p (entry_at (run_of batch count coming).servers s))
    elsewhere s p there to = subst (λ l. IsElsewhere (stream_named n kind) (cell_effect p (entry_at l s))) same (at (entry_at c.servers s) refl)
      where
        run : (cell : ServerCell) → entry_at c.servers s ≡ Some cell → (state : Option ServerState) → cell.state ≡ state → IsElsewhere (stream_named n kind) (server_effect p state)
        run cell found None up = tt
        run cell found (Some st) up = server_apart c k n kind was_none was_absent s p there to cell st found up

        at : (o : Option ServerCell) → entry_at c.servers s ≡ o → IsElsewhere (stream_named n kind) (cell_effect p o)
        at None found = tt
        at (Some cell) found = run cell found cell.state refl

    sent_on : (e : ServerEvent) → IsSent c.stream_layer.post e → (s : ℕ) (p : Packet) → e ≡ Takes s p → IsElsewhere (stream_named n kind) (cell_effect p (entry_at (run_of batch count coming).servers s))
    sent_on e sent s p is = let both = subst (IsSent c.stream_layer.post) is sent in elsewhere s p both.0 both.1

    by : EventKind c event → (run_of batch count (server_events c event ++ coming)).story (stream_named n kind) ≡ []
    by (Quiet is) = subst (λ l. (run_of batch count (l ++ coming)).story (stream_named n kind) ≡ []) (sym is) before
    by (OfServers e free sent is) =
        subst (λ l. (run_of batch count (l ++ coming)).story (stream_named n kind) ≡ []) (sym is) (quiet_story (run_of batch count coming) e free (stream_named n kind) (sent_on e sent) ∙ before)
    by (OfList t) =
        subst (λ l. (run_of batch count (l ++ coming)).story (stream_named n kind) ≡ []) (sym t.is)
        (built_story t.job.range t.job.high (run_of batch count (Builds t.job.range t.job.low ∷ coming)) n kind (λ e. not_in (subst (λ i. IsIn (cluster_after c event).stream_layer.catalog.stream (first_name i)) (sym e) (t.there _ (4, omega arith, refl))))
        ∙ built_story t.job.range t.job.low (run_of batch count coming) n kind (λ e. not_in (subst (λ i. IsIn (cluster_after c event).stream_layer.catalog.stream (first_name i)) (sym e) (t.there _ (0, omega arith, refl)))) ∙ before)

-- each event keeps it so
abbrev pub StaysFresh : (texts : ℕ → Bytes) (batch count : ℕ) → Type 0
StaysFresh texts batch count =
    (c : Cluster) (k : KnowsSplits c) (coming : List ServerEvent) → c.servers ≡ (run_of batch count coming).servers → AreBuilt (IsBuiltBy coming) c → Fresh texts batch count coming c k → (event : Event) (unmerged : IsUnmerged event) →
    Fresh texts batch count (server_events c event ++ coming) (cluster_after c event) (event_knows c event unmerged k)

-- until a server may hold a range nothing is told of it
abbrev pub IsUntold : (texts : ℕ → Bytes) (batch count : ℕ) → List ServerEvent → (c : Cluster) → KnowsSplits c → Type 0
IsUntold texts batch count coming c k = (n : ℕ) → (MayHold c k n → ⊥) → (notes : List Note) → AreSeenAs texts (run_of batch count coming).notes notes → only n notes ≡ []

-- each event keeps that
abbrev pub StaysUntold : (texts : ℕ → Bytes) (batch count : ℕ) → Type 0
StaysUntold texts batch count =
    (c : Cluster) (k : KnowsSplits c) (coming : List ServerEvent) → c.servers ≡ (run_of batch count coming).servers → (event : Event) (unmerged : IsUnmerged event) → IsUntold texts batch count coming c k →
    IsUntold texts batch count (server_events c event ++ coming) (cluster_after c event) (event_knows c event unmerged k)

stays_fresh : (texts : ℕ → Bytes) (batch count : ℕ) → StaysUntold texts batch count → StaysFresh texts batch count
stays_fresh texts batch count stays c k coming same b f event unmerged = record {
  story = story_on batch count c k coming same event unmerged f.story;
  untold = stays c k coming same event unmerged f.untold;
}

module _ (texts : ℕ → Bytes) (batch count : ℕ) where
  abbrev run : List ServerEvent → ServerRun
  run coming = run_of batch count coming

  -- what builds no streams
  builds_none : (e : ServerEvent) → ((source range : ℕ) → e ≡ Builds source range → ⊥) → (x : ServerRun) → BuildsSo texts e x
  builds_none (Takes s p) none x = tt
  builds_none (GivesUp s range pick) none x = tt
  builds_none (Checkpoints s range combine) none x = tt
  builds_none (Splits s range key) none x = tt
  builds_none (Stops s call) none x = tt
  builds_none (Starts s now b) none x = tt
  builds_none (Moment now) none x = tt
  builds_none (Builds source range) none x = absurd (none source range refl)

  module _ (c : Cluster) (k : KnowsSplits c) (coming : List ServerEvent) (same : c.servers ≡ (run coming).servers) (b : AreBuilt (IsBuiltBy coming) c) (f : Fresh texts batch count coming c k) (event : Event) (unmerged : IsUnmerged event)
      (cells : (cluster_after c event).servers ≡ (run (server_events c event ++ coming)).servers) where
    abbrev d : Cluster
    d = cluster_after c event

    after : (more : List ServerEvent) → server_events c event ≡ more → AreChildren (IsBuiltBy (more ++ coming)) (run (more ++ coming))
    after more is =
        are_children d (event_knows c event unmerged k) (run (more ++ coming)) (subst (λ l. d.servers ≡ (run (l ++ coming)).servers) is cells) (IsBuiltBy (more ++ coming))
        (subst (λ l. AreBuilt (IsBuiltBy (l ++ coming)) d) is (built_on c k event unmerged coming b))

    module _ (t : TakesList c event) where
      abbrev low : ServerEvent
      low = Builds t.job.range t.job.low

      low_absent : stream_of c.stream_layer.catalog.stream (first_name t.job.low) ≡ None
      low_absent = t.absent _ (0, omega arith, refl)

      high_absent : stream_of c.stream_layer.catalog.stream (first_name t.job.high) ≡ None
      high_absent = t.absent _ (4, omega arith, refl)

      -- the lower one is built
      between : AreBuilt (IsBuiltBy (low ∷ coming)) c
      between = record {
        asked = λ child built. elim built [
          | inl now ↦ own child now
          | inr old ↦ b.asked child old
        ];
        there = λ child here. elim (b.there child here) [ inl small ↦ inl small | inr built ↦ inr (inr built) ];
      }
        where
          own : (child : ℕ) → IsBuildOf child low → (job : _) × AsksBuild c.stream_layer.post job × IsSide child job
          own child (source, is) = let e : t.job.low ≡ child = cc in (t.job, t.asks, inl (sym e))

      low_may : MayBuild texts t.job.range t.job.low (run coming)
      low_may = record {
        new = record {
          story = f.story t.job.low (new_may c k (run coming) same t.job.range t.job.low t.job t.asks refl (inl refl) low_absent) low_absent;
          held = new_held c k (run coming) same t.job.range t.job.low t.job t.asks refl (inl refl) low_absent;
          untold = f.untold t.job.low (new_may c k (run coming) same t.job.range t.job.low t.job t.asks refl (inl refl) low_absent);
        };
        asked = new_asked c k (run coming) same t.job.range t.job.low t.job t.asks refl (inl refl) low_absent;
      }

      high_may : MayBuild texts t.job.range t.job.high (run (low ∷ coming))
      high_may = record {
        new = record {
          story = λ kind. by kind (t.job.high == t.job.low) refl (f.story t.job.high (new_may c k (run coming) same t.job.range t.job.high t.job t.asks refl (inr refl) high_absent) high_absent kind);
          held = new_held c k (run coming) same t.job.range t.job.high t.job t.asks refl (inr refl) high_absent;
          untold = f.untold t.job.high (new_may c k (run coming) same t.job.range t.job.high t.job t.asks refl (inr refl) high_absent);
        };
        asked = new_asked c k (run (low ∷ coming)) same t.job.range t.job.high t.job t.asks refl (inr refl) high_absent;
      }
        where
          by : (kind : StreamKind) (e : Bool) → (t.job.high == t.job.low) ≡ e → (run coming).story (stream_named t.job.high kind) ≡ [] → (run (low ∷ coming)).story (stream_named t.job.high kind) ≡ []
          by kind true is none = absurd (asked_apart c k t.job t.asks (sym (eqb-true t.job.high t.job.low is)))
          by kind false is none = ap (λ u. if u then own_or ((run coming).story (stream_named t.job.high kind)) ((run coming).story (stream_named t.job.range kind)) else (run coming).story (stream_named t.job.high kind)) is ∙ none

    pub born_on : AreBornSo texts batch count coming → AreBornSo texts batch count (server_events c event ++ coming)
    born_on born = by (event_kind c k event)
      where
        by : EventKind c event → AreBornSo texts batch count (server_events c event ++ coming)
        by (Quiet is) = subst (λ l. AreBornSo texts batch count (l ++ coming)) (sym is) born
        by (OfServers e none sent is) = subst (λ l. AreBornSo texts batch count (l ++ coming)) (sym is) (after (e ∷ []) is, builds_none e none (run coming), born)
        by (OfList t) =
            subst (λ l. AreBornSo texts batch count (l ++ coming)) (sym t.is)
            (after (Builds t.job.range t.job.high ∷ low t ∷ []) t.is, high_may t, (are_children c k (run (low t ∷ coming)) same (IsBuiltBy (low t ∷ coming)) (between t), low_may t, born))

  -- ---- runs

  -- the servers of a cluster are those that what comes to them makes
  abbrev GoesSo : Type 0
  GoesSo = (c : Cluster) (coming : List ServerEvent) → c.servers ≡ (run coming).servers → (event : Event) → IsUnmerged event → (cluster_after c event).servers ≡ (run (server_events c event ++ coming)).servers

  led_born : GoesSo → StaysFresh texts batch count → (events : List Event) → AreUnmerged events → (c : Cluster) (k : KnowsSplits c) (coming : List ServerEvent) → c.servers ≡ (run coming).servers → AreBuilt (IsBuiltBy coming) c → Fresh texts batch count coming c k →
      AreBornSo texts batch count coming → AreBornSo texts batch count (server_events_after c coming events)
  led_born goes stays [] are c k coming same b f born = born
  led_born goes stays (event ∷ events) are c k coming same b f born =
      led_born goes stays events are.1 (cluster_after c event) (event_knows c event are.0 k) (server_events c event ++ coming) (goes c coming same event are.0) (built_on c k event are.0 coming b) (stays c k coming same b f event are.0)
      (born_on c k coming same b f event are.0 (goes c coming same event are.0) born)

first_built : (nodes servers target batch : ℕ) → AreBuilt (IsBuiltBy []) (first_cluster nodes servers target batch)
first_built nodes servers target batch = record {
  asked = λ child built. absurd built;
  there = λ child here. inl (let one = (first_stream child 0 here.0 here.1).0 in omega (arith, one));
}

first_fresh : (texts : ℕ → Bytes) (nodes servers target batch : ℕ) → Fresh texts batch servers [] (first_cluster nodes servers target batch) (first_knows nodes servers target batch)
first_fresh texts nodes servers target batch = record { story = λ n none absent kind. refl; untold = λ n none notes told. by n notes told }
  where
    by : (n : ℕ) (notes : List Note) → AreSeenAs texts [] notes → only n notes ≡ []
    by n [] told = refl
    by n (note ∷ notes) told = absurd told

-- What comes to the servers of a run without merges builds streams as is premised, and at each moment the ranges of splits are so, where nothing is told of
-- a range until a server may hold it.
pub run_born_so : (texts : ℕ → Bytes) (nodes servers target batch : ℕ) (events : List Event) → AreUnmerged events → StaysUntold texts batch servers →
    AreBornSo texts batch servers (server_events_after (first_cluster nodes servers target batch) [] events)
run_born_so texts nodes servers target batch events are stays =
    led_born texts batch servers (λ c coming same event unmerged. (event_goes batch servers c coming same event unmerged).cells) (stays_fresh texts batch servers stays) events are (first_cluster nodes servers target batch)
    (first_knows nodes servers target batch) [] refl (first_built nodes servers target batch) (first_fresh texts nodes servers target batch) tt
