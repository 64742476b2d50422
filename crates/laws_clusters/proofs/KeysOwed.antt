-- What is owed of the appends of keys: a cluster stands on at each answer that a split waits for while it appends them, and where it gives up.
use Rattle.std.proofs.Common.{◌≡◌, ℕ, ◌-◌, ◌≤◌, true, List, [], ◌++◌, Option, Some, None, Contains, slice_set, refl, sym, ap, ◌∙◌, subst, inl, arith}
use Rattle.wire.specs.declared.actor.ActorId.TheVariants.{Server}
use Rattle.wire.specs.declared.actor.ReqNo.{ReqNo}
use Rattle.wire.specs.declared.packet.Packet.{Packet}
use Rattle.client.specs.Client.{ClientState}
use Rattle.model_streams.proofs.Tests.{both_elim}
use Rattle.model_streams.specs.Maps.{entry_at}
use Rattle.model_streams.specs.StreamSystem.{StreamSystem}
use Rattle.model_partition.specs.declared.split_job.Side.{Side}
use Rattle.model_partition.specs.declared.split_job.Side.TheVariants.{Low}
use Rattle.model_partition.specs.declared.split_job.SplitJob.{SplitJob}
use Rattle.model_partition.specs.declared.split_job.SplitPhase.TheVariants as phases
use Rattle.model_partition.specs.Answering.{answered_number, is_answerer, give_up_all}
use Rattle.model_partition.specs.Cluster.{Cluster}
use Rattle.model_partition.specs.Range.{RangeState, RangeOutcome}
use Rattle.model_partition.specs.Server.{ServerState, range_of, set_range, split_of, set_split}
use Rattle.model_partition.specs.Servers.{ServerCell, with_told}
use Rattle.model_partition.specs.Splits.{SplitStep, stays, may_say_keys, says_keys, phase_awaits, keys_again}
use Rattle.model_histories.specs.ServerRun.{ServerRun, with_outcome}
use Rattle.model_histories.specs.StreamActions.{SideAction, keys_said}
use Rattle.laws_loads.proofs.Entries.{set_twice}
use Rattle.laws_map.proofs.SplitFacts.{KnowsSplits}
use Rattle.laws_ranges.specs.SplitJobs.{TellsBuilt, FollowsSplit}
use Rattle.laws_ranges.proofs.SplitSteps.{still_plain}
use Rattle.laws_server_runs.specs.RunInvariant.{view_at}
use Rattle.laws_clusters.proofs.Invariant.{m_side, l_side, Standing, Bases}
use Rattle.laws_clusters.proofs.KeysAnswers as answers
use Rattle.laws_clusters.proofs.MidstOfSteps.{twice_done}
use Rattle.laws_clusters.proofs.RangeRules.{both}
use Rattle.laws_clusters.proofs.RangeStreams.{HasStreams}
use Rattle.laws_clusters.proofs.ServerRules.{AreLaid}
use Rattle.laws_clusters.proofs.SplitBehind as behind
use Rattle.laws_clusters.proofs.SplitPackets as one
use Rattle.laws_clusters.proofs.SplitPackets.{told_joined}
use Rattle.laws_clusters.proofs.SplitServers as splits
use Rattle.laws_clusters.proofs.SplitNumbers.{IsNumbered}
use Rattle.laws_clusters.proofs.SideFacts.{known_heard}
use Rattle.laws_clusters.proofs.SplitsInRuns.{KeysOwed, KeysAgain, known_counted}
use Rattle.laws_clusters.proofs.StepShapes.{AreLeft}

module _ (generation : ℕ → ℕ) (nodes target : ℕ) {base : Bases generation} (c : Cluster) (y : ServerRun) (x : Standing generation nodes target base c y) (calm : base.midst ≡ None) (s : ℕ) (cell : ServerCell) (st : ServerState) (at : entry_at c.servers s ≡ Some cell)
    (is : cell.state ≡ Some st) where
  -- where the streams of the two ranges of a split are built, they are there, and the two are counted
  abbrev pub AreBuilt : Type 0
  AreBuilt =
      (range : ℕ) (r : RangeState) → range_of st.ranges range ≡ Some r → (job : SplitJob) → split_of st.splits range ≡ Some job → (p : Packet) → Contains c.stream_layer.post p → p.to ≡ Server s → is_answerer p.from p.body ≡ true → (u : ReqNo) →
      answered_number p.body ≡ Some u → phase_awaits job.phase u ≡ true → TellsBuilt p.body → (q : ReqNo) → job.phase ≡ phases.Build q →
      (HasStreams c.stream_layer job.low × HasStreams c.stream_layer job.high) × ((1 ≤ job.low) × (1 ≤ job.high))

  module _ (range : ℕ) (r : RangeState) (found : range_of st.ranges range ≡ Some r) (job : SplitJob) (was : split_of st.splits range ≡ Some job) where
    abbrev Heard : SplitStep → List SideAction → Type 0
    Heard t sides = splits.Heard generation nodes target c y x s cell st at is range r found job was t sides

    abbrev i : ℕ
    i = one.i generation nodes target c y x s cell st at is range r found (Some job) was

    abbrev w : StreamSystem
    w = one.w generation nodes target c y x s cell st at is range r found (Some job) was

    shape : (o : Option RangeState) → AreLeft st.ranges (set_range st.ranges range o) range o
    shape = one.shape_of generation nodes target c y x s cell st at is range r found (Some job) was

    follows : FollowsSplit generation range w i (m_side generation (x.machines range) i) (l_side generation (x.machines range) i) r job
    follows = (one.holds generation nodes target c y x s cell st at is range r found (Some job) was).follows

    -- nothing is said where the keys cannot be written
    stays_heard : Heard (stays st.context r job) []
    stays_heard =
        splits.heard generation nodes target c y x s cell st at is range r found job was (stays st.context r job)
        (still_plain generation range w i (both generation nodes target c y x range (one.founded generation nodes target c y x s cell st at is range r found (Some job) was)) (m_side generation (x.machines range) i) (l_side generation (x.machines range) i) st.context
        (one.sent_by generation nodes target c y x s cell st at is range r found (Some job) was) (view_at range y s) (stays st.context r job) follows (omega arith) tt) (record { served = follows.stage; keys = inl refl })

    says_heard : (q : ReqNo) → job.phase ≡ phases.Build q → HasStreams c.stream_layer job.low × HasStreams c.stream_layer job.high → (1 ≤ job.low) × (1 ≤ job.high) → Heard (says_keys st.context r job Low) (keys_said r job Low)
    says_heard q e there counted =
        both_elim Heard (may_say_keys r job) _ _ _ _
        (λ may senders leaves builds laid.
        answers.built_stepped generation nodes target c y x calm s cell st at is range r found job was (λ o. set_range st.ranges range o) shape q e there.0 there.1 counted.0 counted.1 may senders leaves builds laid)
        (λ no. stays_heard)

  -- what is owed of answers
  pub keys_owed : AreBuilt → KeysOwed generation nodes target c y x s cell st at is
  keys_owed built = record {
    says = λ range r found job was p sent to gives u number waits tells q e. (let b = built range r found job was p sent to gives u number waits tells q e in says_heard range r found job was q e b.0 b.1);
    keys = λ range r found job was p sent to gives u number waits side k e senders leaves builds laid.
        answers.answer_stepped generation nodes target c y x calm s cell st at is range r found job was (λ o. set_range st.ranges range o) (shape range r found job was) side k e p sent to gives senders leaves builds laid;
  }

  -- ---- it gives up

  module _ (range : ℕ) (r : RangeState) (found : range_of st.ranges range ≡ Some r) (job : SplitJob) (was : split_of st.splits range ≡ Some job) (next : RangeState) (there : (give_up_all st.context r).after ≡ Some next) (side : Side) (k : ClientState)
      (e : job.phase ≡ phases.Keys side k) where
    abbrev o : RangeOutcome
    o = give_up_all st.context r

    abbrev c1 : Cluster
    c1 =
        behind.c1 generation nodes target c y x s cell st at is range r found job was o [] (splits.gave_acted generation nodes target c y x s cell st at is range r found job was)
        (splits.gave_from generation nodes target c y x s cell st at is range r found job was) (splits.gave_left generation nodes target c y x s cell st at is range r found job was) next there (splits.gave_kept generation nodes target c y x s cell st at is range r found job was next there)

    abbrev y1 : ServerRun
    y1 =
        behind.y1 generation nodes target c y x s cell st at is range r found job was o [] (splits.gave_acted generation nodes target c y x s cell st at is range r found job was)
        (splits.gave_from generation nodes target c y x s cell st at is range r found job was) (splits.gave_left generation nodes target c y x s cell st at is range r found job was) next there (splits.gave_kept generation nodes target c y x s cell st at is range r found job was next there)

    abbrev st1 : ServerState
    st1 =
        behind.st1 generation nodes target c y x s cell st at is range r found job was o [] (splits.gave_acted generation nodes target c y x s cell st at is range r found job was)
        (splits.gave_from generation nodes target c y x s cell st at is range r found job was) (splits.gave_left generation nodes target c y x s cell st at is range r found job was) next there (splits.gave_kept generation nodes target c y x s cell st at is range r found job was next there)

    abbrev cell1 : ServerCell
    cell1 =
        behind.cell1 generation nodes target c y x s cell st at is range r found job was o [] (splits.gave_acted generation nodes target c y x s cell st at is range r found job was)
        (splits.gave_from generation nodes target c y x s cell st at is range r found job was) (splits.gave_left generation nodes target c y x s cell st at is range r found job was) next there (splits.gave_kept generation nodes target c y x s cell st at is range r found job was next there)

    x1 : Standing generation nodes target base c1 y1
    x1 =
        behind.x1 generation nodes target c y x s cell st at is range r found job was o [] (splits.gave_acted generation nodes target c y x s cell st at is range r found job was)
        (splits.gave_from generation nodes target c y x s cell st at is range r found job was) (splits.gave_left generation nodes target c y x s cell st at is range r found job was) next there (splits.gave_kept generation nodes target c y x s cell st at is range r found job was next there)

    at1 : entry_at c1.servers s ≡ Some cell1
    at1 =
        behind.at1 generation nodes target c y x s cell st at is range r found job was o [] (splits.gave_acted generation nodes target c y x s cell st at is range r found job was)
        (splits.gave_from generation nodes target c y x s cell st at is range r found job was) (splits.gave_left generation nodes target c y x s cell st at is range r found job was) next there (splits.gave_kept generation nodes target c y x s cell st at is range r found job was next there)

    found1 : range_of st1.ranges range ≡ Some next
    found1 =
        behind.found1 generation nodes target c y x s cell st at is range r found job was o [] (splits.gave_acted generation nodes target c y x s cell st at is range r found job was)
        (splits.gave_from generation nodes target c y x s cell st at is range r found job was) (splits.gave_left generation nodes target c y x s cell st at is range r found job was) next there (splits.gave_kept generation nodes target c y x s cell st at is range r found job was next there)

    -- what it leaves of its ranges, it leaves of those before
    again_shape : (a : Option RangeState) → AreLeft st1.ranges (set_range st.ranges range a) range a
    again_shape a =
        let now = shape range r found job was a in
        let before = shape range r found job was o.after in
        record { ascending = now.ascending; here = now.here; there = now.there; others = λ j apart. now.others j apart ∙ sym (before.others j apart) }

    abbrev t : SplitStep
    t = keys_again st1.context next job side k

    abbrev last_cell : ServerCell
    last_cell = record cell { state = Some (record st { context = record st.context { count = t.count }; ranges = set_range st.ranges range t.range; splits = set_split st.splits range t.job }) }

    abbrev last_servers : List ServerCell
    last_servers = slice_set c.servers (s - 1) last_cell

    abbrev last_run : ServerRun
    last_run = with_outcome y (record { servers = last_servers; packets = o.packets ++ t.packets; notes = [] })

    abbrev cluster_so : StreamSystem → List ServerCell → Cluster
    cluster_so layer servers = record c { stream_layer = layer; servers = servers }

    abbrev two_servers : List ServerCell
    two_servers = slice_set c1.servers (s - 1) last_cell

    servers_are : two_servers ≡ last_servers
    servers_are = set_twice c.servers (s - 1) cell1 last_cell

    cluster_is : cluster_so (with_told (with_told c.stream_layer o.packets []) t.packets []) two_servers ≡ cluster_so (with_told c.stream_layer (o.packets ++ t.packets) []) last_servers
    cluster_is = ap (λ k. cluster_so k two_servers) (told_joined c.stream_layer o.packets t.packets []) ∙ ap (cluster_so (with_told c.stream_layer (o.packets ++ t.packets) [])) servers_are

    run_is : with_outcome y1 (record { servers = two_servers; packets = t.packets; notes = [] }) ≡ last_run
    run_is = twice_done y c1.servers two_servers o.packets t.packets (o.packets ++ t.packets) ∙ ap (λ k. with_outcome y (record { servers = k; packets = o.packets ++ t.packets; notes = [] })) servers_are

    -- the append of keys is asked for again behind it
    again_goes_on :
        behind.GoesOn generation nodes target c y x s cell st at is range r found job was o [] (splits.gave_acted generation nodes target c y x s cell st at is range r found job was)
        (splits.gave_from generation nodes target c y x s cell st at is range r found job was) (splits.gave_left generation nodes target c y x s cell st at is range r found job was) next there (splits.gave_kept generation nodes target c y x s cell st at is range r found job was next there) t
    again_goes_on senders leaves builds laid =
        subst (λ z. Standing generation nodes target base z last_run) cluster_is
        (subst (λ z. Standing generation nodes target base (cluster_so (with_told (with_told c.stream_layer o.packets []) t.packets []) two_servers) z) run_is
        (answers.again_stepped generation nodes target c1 y1 x1 calm s cell1 st1 at1 refl range next found1 job was (λ a. set_range st.ranges range a) again_shape side k e senders leaves (record { counted = builds.counted; unbuilt = builds.unbuilt })
        (subst (λ z. AreLaid z []) (sym run_is) laid)))

  -- what is owed where it gives up
  pub keys_again_stands : KeysAgain generation nodes target c y x s cell st at is
  keys_again_stands range r found job was next there side k e = again_goes_on range r found job was next there side k e

  -- ---- what is known of splits

  -- where a split is told that its streams are built they are there, and its two ranges are counted
  pub known_built : KnowsSplits c → AreBuilt
  known_built known range r found job was p sent to gives u number waits tells q e = (
    known_heard c known s range job (record { cell = cell; state = st; there = at; up = is; found = was }) q e p sent to gives tells u number waits,
    known_counted c known s cell st at is range job was (subst IsNumbered (sym e) tt),
  )

  -- so nothing is owed of answers where that is known
  pub known_keys_owed : KnowsSplits c → KeysOwed generation nodes target c y x s cell st at is
  known_keys_owed known = keys_owed (known_built known)
