-- In a run without merges the streams of each range that were built of another's have their part of these: from the moment at which a server asked for
-- them nothing is out under the generation that it named, and nothing is begun under it.
use Rattle.std.proofs.Common.{◌≡◌, ◌⊎◌, ℕ, ◌≤◌, ◌<◌, ◌==◌, Bool, true, false, List, [], ◌∷◌, ◌++◌, Option, Some, None, slice_get, Contains, refl, sym, ap, ◌∙◌, subst, inl, inr, arith, if◌then◌else◌, append_assoc}
use Rattle.std.proofs.lemmas.List.{append_cancel_right}
use Rattle.wire.specs.declared.actor.ReqNo.{ReqNo}
use Rattle.wire.specs.declared.actor.ReqNo.TheVariants as requests
use Rattle.wire.specs.declared.packet.Packet.{Packet}
use Rattle.wire.specs.declared.streams.StreamKind.{StreamKind}
use Rattle.wire.specs.declared.streams.StreamKind.TheVariants as kinds
use Rattle.replica.specs.Groups.{Group}
use Rattle.streams.specs.Streams.{stream_of}
use Rattle.model_streams.specs.declared.event.Event.{Event}
use Rattle.model_streams.specs.Maps.{entry_at}
use Rattle.model_streams.specs.StreamSystem.{StreamSystem}
use Rattle.model_partition.specs.declared.split_job.SplitJob.{SplitJob}
use Rattle.model_partition.specs.declared.split_job.SplitPhase.{SplitPhase}
use Rattle.model_partition.specs.declared.split_job.SplitPhase.TheVariants as phases
use Rattle.model_partition.specs.declared.stage.Stage.TheVariants as stages
use Rattle.model_partition.specs.Cluster.{Cluster, IsUnmerged, cluster_after}
use Rattle.model_partition.specs.Range.{RangeState, is_serving}
use Rattle.model_partition.specs.Server.{ServerState, range_of, split_of}
use Rattle.model_partition.specs.Servers.{ServerCell}
use Rattle.model_partition.specs.Splits.{all_streams, built_stream}
use Rattle.model_histories.specs.ServerRun.{ServerRun, ServerEvent, Builds, run_of, after_event, own_or, stream_named, log_name, metadata_name}
use Rattle.model_histories.specs.ServerTurns.{Move, after_all, AreMoves}
use Rattle.model_histories.specs.Story.{Made, Showed, Story, event_at}
use Rattle.laws_stream_machine.specs.Refinement.{Sent}
use Rattle.laws_stream_machine.proofs.MachineCore.{FencedBy}
use Rattle.laws_streams.proofs.Choices.{contains_get}
use Rattle.laws_tables.specs.Built.{story_of, HasLoad}
use Rattle.laws_tables.proofs.Range.{bound}
use Rattle.laws_map.specs.Openings.{Grants, AsksToSplit, IsWaiting, IsOpening, AreOpening, OpeningIf}
use Rattle.laws_map.specs.Stages.{stage_of}
use Rattle.laws_map.proofs.EventNames.{entry_is}
use Rattle.laws_map.proofs.Knowing.{found_at}
use Rattle.laws_map.proofs.ManagerBirths.{IsIn}
use Rattle.laws_map.proofs.PostStays.{stays_in_post}
use Rattle.laws_map.proofs.SplitFacts.{KnowsSplits, IsSide, JobAt, MayHold, event_knows, event_may, held_assigned, split_unassigned}
use Rattle.laws_map.proofs.StagesKept.{IsGiven, given_of}
use Rattle.laws_map.proofs.StagesStand.{AsksBuild, JobStands, same_split}
use Rattle.laws_ranges.specs.Serves.{Side}
use Rattle.laws_ranges.specs.SplitJobs.{RecordedIs, PhaseStands, FollowsSplit, FollowsBoth}
use Rattle.laws_server_runs.proofs.LaidRuns.{all_laid}
use Rattle.laws_server_runs.proofs.RunSteps.{IsAny, IsAnyPair, any_assigned, any_numbered, event_step}
use Rattle.laws_server_runs.proofs.SplitsHeld.{splits_hold}
use Rattle.laws_server_runs.proofs.Unmerged.{unmerged as no_merges}
use Rattle.laws_server_runs.specs.Turns.{outcome_of}
use Rattle.laws_clusters.specs.BuiltOrders.{AsksOf}
use Rattle.laws_clusters.specs.ServerEvents.{server_events}
use Rattle.laws_clusters.proofs.AskedBuilds.{event_asks}
use Rattle.laws_clusters.proofs.BuiltInRuns.{EventKind, Quiet, OfServers, OfList, TakesList, event_kind}
use Rattle.laws_clusters.proofs.BuiltRanges.{after_events}
use Rattle.laws_clusters.proofs.ClusterEvents.{run_events}
use Rattle.laws_clusters.proofs.Generations.{generation_at}
use Rattle.laws_clusters.proofs.GrownLists.{GrewFrom, grew_far}
use Rattle.laws_clusters.proofs.Invariant.{Machines, IsBeside, IsHeld, here, m_side, l_side}
use Rattle.laws_clusters.proofs.PausedStreams.{HasAskedFor, HasAskedIf, HasNoMore, BeginsNone, IsClosedAt, begins_step, same_begins}
use Rattle.laws_clusters.proofs.RestingIncarnations.{Rests, IsPart, one_rests, one_loaded, rests_on, event_later}
use Rattle.laws_clusters.proofs.SharedLogs.{AreBuiltNow, two_builds}
use Rattle.laws_clusters.proofs.SharesInRuns.{StandsSharing, HasGone, ends_of_one}
use Rattle.laws_clusters.proofs.SourceExtents.{made_low}
use Rattle.laws_clusters.proofs.SplitPremises.{side_is}

abbrev Moves : Type 0
Moves = List (Move Group generation_at)

abbrev story : Moves → Story Group
story moves = story_of Group generation_at moves

-- ---- machines

-- a machine that has grown from another whose generation rests, and under which no more was begun
module _ (g : ℕ) (before now : Moves) (grew : GrewFrom before now) (ok : AreMoves Group generation_at now) (no_more : HasNoMore g (story before) (story now)) where
  grown_loaded : HasLoad Group generation_at (story before) g → HasLoad Group generation_at (story now) g
  grown_loaded l =
      (l.0, l.1, l.2, l.3, subst (λ z. event_at (story z) l.0 ≡ Some (Showed g l.1 l.2 l.3)) (sym grew.1) (event_later generation_at grew.0 before l.0 (Showed g l.1 l.2 l.3) l.4))

  grown_rests : Rests generation_at g before → Rests generation_at g now
  grown_rests rests =
      subst (Rests generation_at g) (sym grew.1)
      (rests_on generation_at g before rests grew.0 (subst (AreMoves Group generation_at) grew.1 ok)
      (λ a group made. bound Group (story before) a (Made g group) (no_more a group (subst (λ z. event_at (story z) a ≡ Some (Made g group)) (sym grew.1) made))))

-- the generation was loaded from both streams of a range, and nothing is out under it
pub record IsDone (g : ℕ) (u : Machines generation_at) : Type 0 where
  pub metadata_loaded : HasLoad Group generation_at (story u.m) g
  pub metadata_rests : Rests generation_at g u.m
  pub log_loaded : HasLoad Group generation_at (story u.l) g
  pub log_rests : Rests generation_at g u.l

done_on : (g : ℕ) (u v : Machines generation_at) → GrewFrom u.m v.m × GrewFrom u.l v.l → AreMoves Group generation_at v.m → AreMoves Group generation_at v.l → HasNoMore g (story u.m) (story v.m) → HasNoMore g (story u.l) (story v.l) → IsDone g u → IsDone g v
done_on g u v grew m_ok l_ok m_no_more l_no_more d = record {
  metadata_loaded = grown_loaded g u.m v.m grew.0 m_ok m_no_more d.metadata_loaded;
  metadata_rests = grown_rests g u.m v.m grew.0 m_ok m_no_more d.metadata_rests;
  log_loaded = grown_loaded g u.l v.l grew.1 l_ok l_no_more d.log_loaded;
  log_rests = grown_rests g u.l v.l grew.1 l_ok l_no_more d.log_rests;
}

part_on : (g : ℕ) (source later built built_later : Moves) (front : Story Group) → GrewFrom source later → GrewFrom built built_later → HasNoMore g (story source) (story later) → IsPart generation_at g source built front → IsPart generation_at g later built_later front
part_on g source later built built_later front more own no_more p = record {
  moves = p.moves;
  source_grew = grew_far p.moves source later p.source_grew more;
  built_grew = grew_far p.moves built built_later p.built_grew own;
  story_is = p.story_is;
  settled = record { closed = p.settled.closed; loaded = p.settled.loaded; highest = p.settled.highest; rests = p.settled.rests; begun = λ a group made. p.settled.begun a group (no_more a group made) };
}

part_now : (g : ℕ) (source built : Moves) (front : Story Group) → built ≡ source → (after_all Group generation_at source).state.core.live ≡ None → story source ≡ front → HasLoad Group generation_at (story source) g → ((a h : ℕ) (group : Group) → event_at (story source) a ≡ Some (Made h group) → h ≤ g) → Rests generation_at g source → IsPart generation_at g source built front
part_now g source built front same closed is loaded highest rests = record {
  moves = source;
  source_grew = ([], refl);
  built_grew = ([], same);
  story_is = is;
  settled = record { closed = closed; loaded = loaded; highest = highest; rests = rests; begun = λ a group made. bound Group (story source) a (Made g group) made };
}

-- what is so of the streams of a range that were built of another's: as a split asked
pub record BuiltSo (post : List Packet) (machines : ℕ → Machines generation_at) (source range : ℕ) (moment : ServerRun) : Type 0 where
  pub job : SplitJob
  pub asks : AsksBuild post job
  pub source_is : source ≡ job.range
  pub side : IsSide range job
  pub metadata : IsPart generation_at job.generation (machines source).m (machines range).m (moment.story (metadata_name source))
  pub log : IsPart generation_at job.generation (machines source).l (machines range).l (moment.story (log_name source))

-- ---- phases

asked_stage : (phase : SplitPhase) → 2 ≤ stage_of phase → HasAskedFor phase
asked_stage (phases.Build q) two = tt
asked_stage (phases.Keys side c) two = tt
asked_stage (phases.Complete q) two = tt
asked_stage (phases.Begin q) two = omega (arith, two)
asked_stage phases.Checkpoint two = omega (arith, two)
asked_stage phases.Queue two = omega (arith, two)
asked_stage phases.Record two = omega (arith, two)
asked_stage (phases.Seal kind q) two = omega (arith, two)

-- what is asked for of the two ranges of a split
asks_low : (post : List Packet) (job : SplitJob) → AsksBuild post job → AsksOf post job.range job.low job.generation
asks_low post job (q, a) = record { packet = a.packet; list = all_streams job; request = q; sent = a.sent; is = a.is; names = names }
  where
    names : (kind : StreamKind) → Contains (all_streams job) (record { stream = stream_named job.low kind; sources = record { stream = stream_named job.range kind; generation = job.generation } ∷ [] })
    names kinds.Metadata = (0, omega arith, refl)
    names kinds.Log = (1, omega arith, refl)
    names kinds.RowData = (2, omega arith, refl)
    names kinds.BlobData = (3, omega arith, refl)

asks_high : (post : List Packet) (job : SplitJob) → AsksBuild post job → AsksOf post job.range job.high job.generation
asks_high post job (q, a) = record { packet = a.packet; list = all_streams job; request = q; sent = a.sent; is = a.is; names = names }
  where
    names : (kind : StreamKind) → Contains (all_streams job) (record { stream = stream_named job.high kind; sources = record { stream = stream_named job.range kind; generation = job.generation } ∷ [] })
    names kinds.Metadata = (4, omega arith, refl)
    names kinds.Log = (5, omega arith, refl)
    names kinds.RowData = (6, omega arith, refl)
    names kinds.BlobData = (7, omega arith, refl)

-- so what was built was asked for
pub asked_of : (post : List Packet) (machines : ℕ → Machines generation_at) (source range : ℕ) (moment : ServerRun) (b : BuiltSo post machines source range moment) → AsksOf post source range b.job.generation
asked_of post machines source range moment b = subst (λ n. AsksOf post n range b.job.generation) (sym b.source_is) (by b.side)
  where
    by : IsSide range b.job → AsksOf post b.job.range range b.job.generation
    by (inl low) = subst (λ n. AsksOf post b.job.range n b.job.generation) (sym low) (asks_low post b.job b.asks)
    by (inr high) = subst (λ n. AsksOf post b.job.range n b.job.generation) (sym high) (asks_high post b.job b.asks)

-- a list of one event that builds nothing has none that does
none_left : (late early : List ServerEvent) (source range : ℕ) → [] ≡ late ++ Builds source range ∷ early → ⊥
none_left [] early source range e = cc
none_left (a ∷ late) early source range e = cc

one_left : (event : ServerEvent) → ((source range : ℕ) → event ≡ Builds source range → ⊥) → (late early : List ServerEvent) (source range : ℕ) → event ∷ [] ≡ late ++ Builds source range ∷ early → ⊥
one_left event free [] early source range e = free source range (let same : event ≡ Builds source range = cc in same)
one_left event free (a ∷ late) early source range e = none_left late early source range (let rest : [] ≡ late ++ Builds source range ∷ early = cc in rest)

-- what stands is not built anew
own_stays : {A : Type 0} (b : Bool) (own given : List A) → (own ≡ [] → ⊥) → (if b then own_or own given else own) ≡ own
own_stays true [] given some = absurd (some refl)
own_stays true (x ∷ own) given some = refl
own_stays false own given some = refl

module _ (nodes target batch count : ℕ) where
  abbrev run : List ServerEvent → ServerRun
  run coming = run_of batch count coming

  abbrev Sharing : Cluster → List ServerEvent → Type 0
  Sharing c coming = StandsSharing nodes target batch count c coming

  -- for the streams of whose split somebody asked
  pub record AskedSo (c : Cluster) (k : KnowsSplits c) (machines : ℕ → Machines generation_at) (job : SplitJob) : Type 0 where
    pub done : IsDone job.generation (machines job.range)
    pub held : MayHold c k job.range
    pub counted : 1 ≤ job.range

  pub record StandParts (c : Cluster) (coming : List ServerEvent) (x : Sharing c coming) (k : KnowsSplits c) : Type 0 where
    pub asked : (job : SplitJob) → AsksBuild c.stream_layer.post job → AskedSo c k x.stands.machines job
    pub built : (late early : List ServerEvent) (source range : ℕ) → coming ≡ late ++ Builds source range ∷ early → BuiltSo c.stream_layer.post x.stands.machines source range (run early)

  -- ---- a cluster

  module _ (c : Cluster) (coming : List ServerEvent) (x : Sharing c coming) (k : KnowsSplits c) where
    abbrev y : ServerRun
    y = run coming

    -- where a range stands at a server whose split has asked for the streams of its two, or that does not serve it yet
    module _ (range i : ℕ) (m l : Side) (r : RangeState) where
      abbrev Follow : Option SplitJob → Type 0
      Follow o = FollowsBoth generation_at range (here generation_at nodes target x.stands.moves) i o r m l

      recorded : (job : SplitJob) (phase : SplitPhase) → HasAskedFor phase → PhaseStands generation_at range (here generation_at nodes target x.stands.moves) i m l r job phase → RecordedIs generation_at range (here generation_at nodes target x.stands.moves) i m l r
      recorded job (phases.Build q) asked s = s.0
      recorded job (phases.Keys side u) asked s = s.0
      recorded job (phases.Complete q) asked s = s.0
      recorded job (phases.Begin q) asked s = absurd asked
      recorded job phases.Checkpoint asked s = absurd asked
      recorded job phases.Queue asked s = absurd asked
      recorded job phases.Record asked s = absurd asked
      recorded job (phases.Seal kind q) asked s = absurd asked

      follow_calm : (o : Option SplitJob) → Follow o → (is_serving r.stage ≡ true → HasAskedIf o) → r.control ≡ None
      follow_calm None f asked = by (is_serving r.stage) refl
        where
          by : (b : Bool) → is_serving r.stage ≡ b → r.control ≡ None
          by false e = (f.calm e).1
          by true e = absurd (asked e)
      follow_calm (Some job) f asked = (recorded job job.phase (asked (ap is_serving f.stage)) f.stands).paused.control

    module _ (s : ℕ) (cell : ServerCell) (st : ServerState) (at : entry_at c.servers s ≡ Some cell) (up : cell.state ≡ Some st) where
      opening : AreOpening c.stream_layer.post st
      opening = subst (OpeningIf c.stream_layer.post) up (entry_is (λ (z : ServerCell). OpeningIf c.stream_layer.post z.state) c.servers s cell k.whole.held at)

      -- who serves the range of a split for whose streams somebody asked has that split, which has asked for them
      module _ (job : SplitJob) (a : AsksBuild c.stream_layer.post job) (r : RangeState) (found : range_of st.ranges job.range ≡ Some r) (same : job.generation ≡ r.load.generation) (serves : is_serving r.stage ≡ true) where
        own : IsOpening c.stream_layer.post st.context.server st.context.session job.range r
        own = found_at (IsOpening c.stream_layer.post st.context.server st.context.session) st.ranges job.range r opening.ranges found

        not_waiting : (q : ReqNo) → IsWaiting q r.load.phase r.stage → ⊥
        not_waiting q waits = let e : is_serving stages.Opening ≡ true = subst (λ stage. is_serving stage ≡ true) waits.1 serves in cc

        granted : Grants c.stream_layer.post job.range job.generation (requests.Server st.context.server st.context.session own.count)
        granted = subst (λ g. Grants c.stream_layer.post job.range g (requests.Server st.context.server st.context.session own.count)) (sym same)
            (own.asked, elim own.stands.2 [ inl waits ↦ absurd (not_waiting _ waits) | inr told ↦ told.1 ])

        asks : (key : List ℕ) × AsksToSplit c.stream_layer.post job.range job.generation key
        asks = let z : IsGiven k.gives.given k.governs.asks job = given_of c.stream_layer k.gives.given k.governs.asks c.map.next k.gives.gives.map.below k.gives.gives.names.post job a in (z.key, (z.request, record { packet = z.asked.packet; sent = k.governs.sent z.asked.packet z.asked.sent; is = z.asked.is }))

        serving_asked : HasAskedIf (split_of st.splits job.range)
        serving_asked =
            let z = k.whole.splits job.range job.generation asks.0 asks.1 in
            let one = k.whole.openings.one job.range job.generation (requests.Server z.server z.session z.count) (requests.Server st.context.server st.context.session own.count) z.granted granted in
            let server : z.server ≡ st.context.server = cc in
            let session : z.session ≡ st.context.session = cc in
            let mine = k.whole.themselves s cell at st up in
            elim (z.speaks cell (ap (entry_at c.servers) (server ∙ mine.0) ∙ at) (sym mine.1 ∙ sym session) st up r found (sym same)) [
              | inl waits ↦ absurd (not_waiting waits.0 waits.1)
              | inr split ↦
                  (let j : JobStands c.stream_layer.post (IsIn c.stream_layer.catalog.stream) s job.range split.job = k.stand.stages.jobs s cell st at up job.range split.job split.there in
                  subst HasAskedIf (sym split.there) (asked_stage split.job.phase (j.builds job a (sym j.number) (sym split.under)).0))
            ]

      closed_here : (job : SplitJob) → AsksBuild c.stream_layer.post job → MayHold c k job.range → IsClosedAt job.range job.generation st
      closed_here job a may = record {
        calm = λ r found same.
            (let held = (x.stands.servers s cell st at up).held job.range r found in
            follow_calm job.range held.incarnation (m_side generation_at (x.stands.machines job.range) held.incarnation) (l_side generation_at (x.stands.machines job.range) held.incarnation) r (split_of st.splits job.range) held.holds.follows
            (λ serves. serving_asked job a r found same serves));
        asked = λ r found same serves. serving_asked job a r found same serves;
        apart = λ n other split one three side is.
            split_unassigned c k s n other (record { cell = cell; state = st; there = at; runs = up; found = split }) one three job.range (side_is other side job.range is) may;
      }

    module _ (p : StandParts c coming x k) (event : Event) (unmerged : IsUnmerged event) where
      abbrev d : Cluster
      d = cluster_after c event

      abbrev events : List ServerEvent
      events = server_events c event

      -- ---- nothing is begun under a generation that was named

      -- streams that were loaded have a story
      some_story : (g : ℕ) (moves : Moves) (z : Story Group) → z ≡ story moves → HasLoad Group generation_at (story moves) g → z ≡ [] → ⊥
      some_story g moves z is l none =
          let at : event_at [] l.0 ≡ Some (Showed g l.1 l.2 l.3) = ap (λ t. event_at t l.0) (sym none ∙ is) ∙ l.4 in
          cc

      -- what is built for other ranges, or stands, leaves a story
      two_kept : (t : TakesList c event) (n : ℕ) (kind : StreamKind) → (y.story (stream_named n kind) ≡ [] → ⊥) →
          (run (Builds t.job.range t.job.high ∷ Builds t.job.range t.job.low ∷ coming)).story (stream_named n kind) ≡ y.story (stream_named n kind)
      two_kept t n kind some =
          let first : (run (Builds t.job.range t.job.low ∷ coming)).story (stream_named n kind) ≡ y.story (stream_named n kind) =
          own_stays (n == t.job.low) (y.story (stream_named n kind)) (y.story (stream_named t.job.range kind)) some in
          own_stays (n == t.job.high) ((run (Builds t.job.range t.job.low ∷ coming)).story (stream_named n kind)) ((run (Builds t.job.range t.job.low ∷ coming)).story (stream_named t.job.range kind)) (λ none. some (sym first ∙ none)) ∙ first

      module _ (job : SplitJob) (a : AsksBuild c.stream_layer.post job) where
        abbrev g : ℕ
        g = job.generation

        done : IsDone job.generation (x.stands.machines job.range)
        done = (p.asked job a).done

        begins_so : (more : List ServerEvent) → EventKind c event → events ≡ more → BeginsNone job.range job.generation y (run (more ++ coming))
        begins_so more (Quiet none) is = subst (λ l. BeginsNone job.range job.generation y (run (l ++ coming))) (sym none ∙ is) (same_begins job.range job.generation y y (λ kind. refl))
        begins_so more (OfServers e free sent one) is =
            subst (λ l. BeginsNone job.range job.generation y (run (l ++ coming))) (sym one ∙ is)
            (begins_step job.range job.generation y (all_laid batch count coming) (splits_hold batch count coming)
            (λ s cell st at up. closed_here s cell st (ap (λ l. entry_at l s) x.stands.cells ∙ at) up job a (p.asked job a).held)
            (outcome_of y.servers e).notes (after_event y e) (event_step IsAny IsAnyPair y (no_merges batch count coming) e free (any_assigned e) (any_numbered e)))
        begins_so more (OfList t) is = subst (λ l. BeginsNone job.range job.generation y (run (l ++ coming))) (sym t.is ∙ is) (record { metadata = kept kinds.Metadata some_metadata; log = kept kinds.Log some_log })
          where
            some_metadata : y.story (metadata_name job.range) ≡ [] → ⊥
            some_metadata = some_story job.generation (x.stands.machines job.range).m (y.story (metadata_name job.range)) (x.stands.stories.metadata_is job.range) done.metadata_loaded

            some_log : y.story (log_name job.range) ≡ [] → ⊥
            some_log = some_story job.generation (x.stands.machines job.range).l (y.story (log_name job.range)) (x.stands.stories.log_is job.range) done.log_loaded

            kept : (kind : StreamKind) → (y.story (stream_named job.range kind) ≡ [] → ⊥) → HasNoMore job.generation (y.story (stream_named job.range kind)) ((run (Builds t.job.range t.job.high ∷ Builds t.job.range t.job.low ∷ coming)).story (stream_named job.range kind))
            kept kind some b group made = subst (λ z. event_at z b ≡ Some (Made job.generation group)) (two_kept t job.range kind some) made

        pub begins_none : BeginsNone job.range job.generation y (run (events ++ coming))
        begins_none = begins_so events (event_kind c k event) refl

      -- ---- after the event

      module _ (next : Sharing d (events ++ coming)) (gone : HasGone nodes target batch count c coming x event next) where
        abbrev z : ServerRun
        z = run (events ++ coming)

        abbrev known : KnowsSplits d
        known = event_knows c event unmerged k

        -- so of the machines
        module _ (n g : ℕ) (b : BeginsNone n g y z) where
          metadata_more : HasNoMore g (story (x.stands.machines n).m) (story (next.stands.machines n).m)
          metadata_more a group made =
              subst (λ t. event_at t a ≡ Some (Made g group)) (x.stands.stories.metadata_is n) (b.metadata a group (subst (λ t. event_at t a ≡ Some (Made g group)) (sym (next.stands.stories.metadata_is n)) made))

          log_more : HasNoMore g (story (x.stands.machines n).l) (story (next.stands.machines n).l)
          log_more a group made =
              subst (λ t. event_at t a ≡ Some (Made g group)) (x.stands.stories.log_is n) (b.log a group (subst (λ t. event_at t a ≡ Some (Made g group)) (sym (next.stands.stories.log_is n)) made))

        done_later : (job : SplitJob) → AsksBuild c.stream_layer.post job → IsDone job.generation (next.stands.machines job.range)
        done_later job a =
            let b : BeginsNone job.range job.generation y z = begins_none job a in
            done_on job.generation (x.stands.machines job.range) (next.stands.machines job.range) (gone.grows job.range) (next.stands.beside job.range).m_are (next.stands.beside job.range).l_are
            (metadata_more job.range job.generation b) (log_more job.range job.generation b) (p.asked job a).done

        -- ---- the fence of a source

        -- what was built of it changes nothing of its own
        stories_kept : (t : TakesList c event) (n : ℕ) (kind : StreamKind) → (y.story (stream_named n kind) ≡ [] → ⊥) → z.story (stream_named n kind) ≡ y.story (stream_named n kind)
        stories_kept t n kind some = ap (λ l. (run (l ++ coming)).story (stream_named n kind)) t.is ∙ two_kept t n kind some

        -- nothing was begun under a generation above the one that is named
        module _ (t : TakesList c event) where
          source_low : (kind : StreamKind) (at : ℕ) → slice_get (all_streams t.job) at ≡ Some (built_stream t.job t.job.low kind) → at < 8 → (done : Moves) (sent : List Sent) →
              IsBeside generation_at nodes target x.stands.moves (stream_named t.job.range kind) done sent → (after_all Group generation_at done).state.core.fence ≤ t.job.generation
          source_low kind at is less done sent (inr to_be) = subst (λ l. (after_all Group generation_at l).state.core.fence ≤ t.job.generation) (sym to_be.none_done) (omega arith)
          source_low kind at is less done sent (inl stream) =
              let (u, there) = stream.there in
              let fence : u.fence ≡ t.job.generation =
              t.fenced (built_stream t.job t.job.low kind) (contains_get (all_streams t.job) at (built_stream t.job t.job.low kind) is) (record { stream = stream_named t.job.range kind; generation = t.job.generation }) (0, omega arith, refl) u
              (ap (λ (w : StreamSystem). stream_of w.catalog.stream (stream_named t.job.range kind)) (sym x.stands.leads) ∙ there) in
              elim (subst (FencedBy (after_all Group generation_at done).state) there stream.below.follows.shaped.settled.fence) [
                | inl same ↦ (omega (arith, same, fence))
                | inr none ↦ (let zero_is = none.0 in omega (arith, zero_is))
              ]

          counted : 1 ≤ t.job.range
          counted = (p.asked t.job t.asks).counted

          metadata_highest : (a h : ℕ) (group : Group) → event_at (story (next.stands.machines t.job.range).m) a ≡ Some (Made h group) → h ≤ t.job.generation
          metadata_highest a h group made =
              let some : y.story (metadata_name t.job.range) ≡ [] → ⊥ = some_story t.job.generation (x.stands.machines t.job.range).m (y.story (metadata_name t.job.range)) (x.stands.stories.metadata_is t.job.range) (p.asked t.job t.asks).done.metadata_loaded in
              let same : story (next.stands.machines t.job.range).m ≡ story (x.stands.machines t.job.range).m = sym (next.stands.stories.metadata_is t.job.range) ∙ stories_kept t t.job.range kinds.Metadata some ∙ x.stands.stories.metadata_is t.job.range in
              let low = made_low generation_at (x.stands.machines t.job.range).m (x.stands.beside t.job.range).m_are a h group (subst (λ u. event_at u a ≡ Some (Made h group)) same made) in
              let fence = source_low kinds.Metadata 0 refl (omega arith) (x.stands.machines t.job.range).m (x.stands.machines t.job.range).m_sent ((x.stands.beside t.job.range).metadata counted) in
              omega (arith, low, fence)

          log_highest : (a h : ℕ) (group : Group) → event_at (story (next.stands.machines t.job.range).l) a ≡ Some (Made h group) → h ≤ t.job.generation
          log_highest a h group made =
              let some : y.story (log_name t.job.range) ≡ [] → ⊥ = some_story t.job.generation (x.stands.machines t.job.range).l (y.story (log_name t.job.range)) (x.stands.stories.log_is t.job.range) (p.asked t.job t.asks).done.log_loaded in
              let same : story (next.stands.machines t.job.range).l ≡ story (x.stands.machines t.job.range).l = sym (next.stands.stories.log_is t.job.range) ∙ stories_kept t t.job.range kinds.Log some ∙ x.stands.stories.log_is t.job.range in
              let low = made_low generation_at (x.stands.machines t.job.range).l (x.stands.beside t.job.range).l_are a h group (subst (λ u. event_at u a ≡ Some (Made h group)) same made) in
              let fence = source_low kinds.Log 1 refl (omega arith) (x.stands.machines t.job.range).l (x.stands.machines t.job.range).l_sent ((x.stands.beside t.job.range).log counted) in
              omega (arith, low, fence)

        -- ---- what is asked for

        -- a split that waits for the streams of its two ranges
        module _ (s n : ℕ) (job : SplitJob) (at : JobAt d.servers s n job) (q : ReqNo) (waits : job.phase ≡ phases.Build q) where
          there : (r : RangeState) × (range_of at.state.ranges n ≡ Some r)
          there = (next.stands.servers s at.cell at.state at.there at.runs).split_held n job at.found

          held : IsHeld generation_at nodes target next.stands.moves n (next.stands.machines n) (z.history s n) (next.stands.incarnation s n) (split_of at.state.splits n) there.0
          held = (next.stands.servers s at.cell at.state at.there at.runs).held n there.0 there.1

          i : ℕ
          i = held.incarnation

          m : Side
          m = m_side generation_at (next.stands.machines n) held.incarnation

          l : Side
          l = l_side generation_at (next.stands.machines n) held.incarnation

          follows : FollowsSplit generation_at n (here generation_at nodes target next.stands.moves) held.incarnation (m_side generation_at (next.stands.machines n) held.incarnation) (l_side generation_at (next.stands.machines n) held.incarnation) there.0 job
          follows = subst (λ o. FollowsBoth generation_at n (here generation_at nodes target next.stands.moves) held.incarnation o there.0 (m_side generation_at (next.stands.machines n) held.incarnation) (l_side generation_at (next.stands.machines n) held.incarnation)) at.found held.holds.follows

          records : RecordedIs generation_at n (here generation_at nodes target next.stands.moves) held.incarnation (m_side generation_at (next.stands.machines n) held.incarnation) (l_side generation_at (next.stands.machines n) held.incarnation) there.0
          records =
              (subst (λ phase. PhaseStands generation_at n (here generation_at nodes target next.stands.moves) held.incarnation (m_side generation_at (next.stands.machines n) held.incarnation) (l_side generation_at (next.stands.machines n) held.incarnation) there.0 job phase) waits
              follows.stands).0

          waits_done : IsDone job.generation (next.stands.machines n)
          waits_done = subst (λ g. IsDone g (next.stands.machines n)) (sym follows.under) (record {
            metadata_loaded = one_loaded generation_at (next.stands.machines n).m (next.stands.beside n).m_are held.incarnation _ records.metadata.live records.metadata.stands;
            metadata_rests = one_rests generation_at (next.stands.machines n).m (next.stands.beside n).m_are held.incarnation _ records.metadata.live records.metadata.stands;
            log_loaded = one_loaded generation_at (next.stands.machines n).l (next.stands.beside n).l_are held.incarnation _ records.paused.log.live records.paused.log.stands;
            log_rests = one_rests generation_at (next.stands.machines n).l (next.stands.beside n).l_are held.incarnation _ records.paused.log.live records.paused.log.stands;
          })

          waits_counted : 1 ≤ n
          waits_counted = held.counted

          waits_held : MayHold d known n
          waits_held = held_assigned d known s at.cell at.state at.there at.runs n there.0 there.1

        asked_later : (job : SplitJob) → AsksBuild d.stream_layer.post job → AskedSo d known next.stands.machines job
        asked_later job (q, a) = elim (event_asks c k event unmerged a.packet a.sent (all_streams job) q a.is) [
          | inl old ↦
              (let before : AsksBuild c.stream_layer.post job = (q, record { packet = a.packet; sent = old; is = a.is }) in
              record { done = done_later job before; held = event_may c event unmerged k job.range (p.asked job before).held; counted = (p.asked job before).counted })
          | inr w ↦
              (let same = same_split job w.job w.is in
              let number : w.job.range ≡ w.range = (known.stand.stages.jobs w.server w.at.cell w.at.state w.at.there w.at.runs w.range w.job w.at.found).number in
              record {
                done = subst (λ n. IsDone job.generation (next.stands.machines n)) (sym (same.0 ∙ number)) (subst (λ g. IsDone g (next.stands.machines w.range)) (sym same.1) (waits_done w.server w.range w.job w.at w.request w.waits));
                held = subst (λ n. MayHold d known n) (sym (same.0 ∙ number)) (waits_held w.server w.range w.job w.at w.request w.waits);
                counted = subst (λ n. 1 ≤ n) (sym (same.0 ∙ number)) (waits_counted w.server w.range w.job w.at w.request w.waits);
              })
        ]

        -- ---- what is built

        asks_later : (job : SplitJob) → AsksBuild c.stream_layer.post job → AsksBuild d.stream_layer.post job
        asks_later job (q, a) = (q, record { packet = a.packet; sent = stays_in_post c a.packet a.sent event; is = a.is })

        old_built : (late early : List ServerEvent) (source range : ℕ) → coming ≡ late ++ Builds source range ∷ early → BuiltSo d.stream_layer.post next.stands.machines source range (run early)
        old_built late early source range is =
            let o = p.built late early source range is in
            let b : BeginsNone source o.job.generation y z = subst (λ n. BeginsNone n o.job.generation y z) (sym o.source_is) (begins_none o.job o.asks) in
            record {
              job = o.job;
              asks = asks_later o.job o.asks;
              source_is = o.source_is;
              side = o.side;
              metadata = part_on o.job.generation (x.stands.machines source).m (next.stands.machines source).m (x.stands.machines range).m (next.stands.machines range).m ((run early).story (metadata_name source)) (gone.grows source).0 (gone.grows range).0
                  (metadata_more source o.job.generation b) o.metadata;
              log = part_on o.job.generation (x.stands.machines source).l (next.stands.machines source).l (x.stands.machines range).l (next.stands.machines range).l ((run early).story (log_name source)) (gone.grows source).1 (gone.grows range).1
                  (log_more source o.job.generation b) o.log;
            }

        -- one of the two of a split whose list the manager takes
        side_built : (t : TakesList c event) (range : ℕ) → IsSide range t.job → (moment : ServerRun) → AreBuiltNow generation_at next.stands.machines t.job.range range moment → BuiltSo d.stream_layer.post next.stands.machines t.job.range range moment
        side_built t range side moment b =
            let done : IsDone t.job.generation (next.stands.machines t.job.range) = done_later t.job t.asks in
            record {
              job = t.job;
              asks = asks_later t.job t.asks;
              source_is = refl;
              side = side;
              metadata = part_now t.job.generation (next.stands.machines t.job.range).m (next.stands.machines range).m (moment.story (metadata_name t.job.range)) b.metadata b.metadata_closed b.metadata_story done.metadata_loaded (metadata_highest t) done.metadata_rests;
              log = part_now t.job.generation (next.stands.machines t.job.range).l (next.stands.machines range).l (moment.story (log_name t.job.range)) b.log b.log_closed b.log_story done.log_loaded (log_highest t) done.log_rests;
            }

        new_built : EventKind c event → (late early : List ServerEvent) (source range : ℕ) → events ≡ late ++ Builds source range ∷ early → BuiltSo d.stream_layer.post next.stands.machines source range (after_events y early)
        new_built (Quiet none) late early source range is = absurd (none_left late early source range (sym none ∙ is))
        new_built (OfServers e free sent one) late early source range is = absurd (one_left e free late early source range (sym one ∙ is))
        new_built (OfList t) late early source range is =
            two_builds (λ n m rest. BuiltSo d.stream_layer.post next.stands.machines n m (after_events y rest)) t.job.range t.job.low t.job.high
            (side_built t t.job.high (inr refl) (after_events y (Builds t.job.range t.job.low ∷ [])) (gone.now [] (Builds t.job.range t.job.low ∷ []) t.job.range t.job.high t.is))
            (side_built t t.job.low (inl refl) y (gone.now (Builds t.job.range t.job.high ∷ []) [] t.job.range t.job.low t.is)) late early source range (sym t.is ∙ is)

        all_built : (late early : List ServerEvent) (source range : ℕ) → events ++ coming ≡ late ++ Builds source range ∷ early → BuiltSo d.stream_layer.post next.stands.machines source range (run early)
        all_built late early source range e = by (ends_of_one events coming late (Builds source range ∷ early) e)
          where
            by : ((more : List ServerEvent) × (coming ≡ more ++ Builds source range ∷ early)) ⊎ ((more : List ServerEvent) × (Builds source range ∷ early ≡ more ++ coming)) → BuiltSo d.stream_layer.post next.stands.machines source range (run early)
            by (inl (more, is)) = old_built more early source range is
            by (inr ([], is)) = old_built [] early source range (sym is)
            by (inr (b ∷ more, is)) =
                let early_is : early ≡ more ++ coming = cc in
                let events_are : events ≡ late ++ Builds source range ∷ more =
                append_cancel_right events (late ++ Builds source range ∷ more) coming (e ∙ ap (λ l. late ++ Builds source range ∷ l) early_is ∙ sym (append_assoc late (Builds source range ∷ more) coming)) in
                subst (BuiltSo d.stream_layer.post next.stands.machines source range) (run_events batch count more coming ∙ ap run (sym early_is)) (new_built (event_kind c k event) late more source range events_are)

        -- EACH EVENT leaves it so
        pub parts_on : StandParts d (events ++ coming) next known
        parts_on = record { asked = asked_later; built = all_built }

  -- and it is so where nothing has come
  pub first_parts : (c : Cluster) → c.stream_layer.post ≡ [] → (x : Sharing c []) (k : KnowsSplits c) → StandParts c [] x k
  first_parts c none x k = record {
    asked = λ job a. absurd (let there : Contains [] a.1.packet = subst (λ l. Contains l a.1.packet) none a.1.sent in let less = there.1 in omega (arith, less));
    built = λ late early source range is. absurd (none_left late early source range is);
  }
