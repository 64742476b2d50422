-- What is owed of the splits of servers in a run without merges: that what ranges know of their blob streams is closed, that those who open
-- them are told of closed ones, and the appends of keys.
use Rattle.std.proofs.Common.{◌≡◌, ℕ, ◌≤◌, true, false, [], Option, Some, None, Contains, refl, sym, ap, ◌∙◌, subst, arith}
use Rattle.wire.specs.declared.actor.ActorId.TheVariants.{Server}
use Rattle.wire.specs.declared.actor.ReqNo.{ReqNo}
use Rattle.wire.specs.declared.packet.Packet.{Packet}
use Rattle.client.specs.Client.{ClientState, reply_rule}
use Rattle.model_streams.specs.Maps.{entry_at}
use Rattle.model_streams.specs.StreamSystem.{StreamSystem}
use Rattle.model_partition.specs.declared.split_job.Side.{Side}
use Rattle.model_partition.specs.declared.split_job.Side.TheVariants.{Low}
use Rattle.model_partition.specs.declared.split_job.SplitJob.{SplitJob}
use Rattle.model_partition.specs.declared.split_job.SplitPhase.{SplitPhase}
use Rattle.model_partition.specs.declared.split_job.SplitPhase.TheVariants as phases
use Rattle.model_partition.specs.declared.stage.Stage.{Stage}
use Rattle.model_partition.specs.declared.stage.Stage.TheVariants as stages
use Rattle.model_partition.specs.Answering.{answered_number, is_answerer, answer_rule, give_up_all}
use Rattle.model_partition.specs.Checkpoints.{trim_awaits}
use Rattle.model_partition.specs.Cluster.{Cluster}
use Rattle.model_partition.specs.Getting.{get_rule}
use Rattle.model_partition.specs.Range.{RangeState, RangeOutcome, request, picking, is_serving}
use Rattle.model_partition.specs.Server.{ServerState, counted, range_of, split_of}
use Rattle.model_partition.specs.Servers.{ServerCell}
use Rattle.model_partition.specs.Serving.{transact_rule}
use Rattle.model_partition.specs.Splits.{side_range, phase_awaits, says_keys, keys_reply, keys_again}
use Rattle.model_histories.specs.ServerRun.{ServerRun}
use Rattle.model_histories.specs.StreamActions.{keys_said, keys_told}
use Rattle.laws_map.specs.Stages.{stage_of}
use Rattle.laws_map.proofs.SplitFacts.{KnowsSplits}
use Rattle.laws_ranges.specs.Serves.{Side as Stands, log_of, IsTold, HasNoCheckpoint, TrimsJob, StageIs, Follows}
use Rattle.laws_ranges.specs.SplitJobs.{TellsBuilt, PhaseStands, FollowsBoth, BlobClosedIf, BlobTold}
use Rattle.laws_ranges.proofs.BlobClosed.{transact_closed, get_closed, answer_closed, closed_blob}
use Rattle.laws_clusters.proofs.Invariant.{here, m_side, l_side, Standing, Bases}
use Rattle.laws_clusters.proofs.SplitNumbers.{IsNumbered, reply_counted, follows_counted, gives_up_counted, job_counted, told_apart}
use Rattle.laws_clusters.proofs.ClosedServers.{HasClosed}
use Rattle.laws_clusters.proofs.ServerNumbers as numbers
use Rattle.laws_clusters.proofs.SplitBehind as behind
use Rattle.laws_clusters.proofs.SideFacts.{known_streams}
use Rattle.laws_clusters.proofs.SplitPremises.{side_is}
use Rattle.laws_clusters.proofs.SplitRequests.{HasNoSides}
use Rattle.laws_clusters.proofs.SplitServers as splits
use Rattle.laws_clusters.proofs.SplitServers.{SplitsOwed, LeavingOwed}

-- ---- a range that trims its log

module _ (generation : ℕ → ℕ) (range : ℕ) (w : StreamSystem) (i : ℕ) (m l : Stands) (r : RangeState) (u : ReqNo) (waits : trim_awaits r.control u ≡ true) where
  -- what it trims is behind the last extent of the log
  abbrev Trims : Type 0
  Trims = IsTold generation (log_of range) w i l.stand l.sent r.log × TrimsJob r.log r.control

  no_trim : r.control ≡ None → Trims
  no_trim none = absurd (let z : false ≡ true = sym (ap (λ c. trim_awaits c u) none) ∙ waits in cc)

  follows_trims : Follows generation range w i m l r → Trims
  follows_trims f = go r.stage f.stage f.calm
    where
      go : (stage : Stage) → StageIs generation range w i m l r stage → (is_serving stage ≡ false → HasNoCheckpoint r) → Trims
      go stages.Serving s calm = (s.log.told, s.trims)
      go stage s calm = no_trim (calm refl).1

  phase_trims : (job : SplitJob) (phase : SplitPhase) → PhaseStands generation range w i m l r job phase → Trims
  phase_trims job (phases.Begin q) s = follows_trims s
  phase_trims job phases.Checkpoint s = follows_trims s
  phase_trims job phases.Queue s = follows_trims s.0
  phase_trims job phases.Record s = no_trim s.0.control
  phase_trims job (phases.Seal kind q) s = no_trim s.0.paused.control
  phase_trims job (phases.Build q) s = no_trim s.0.paused.control
  phase_trims job (phases.Keys side c) s = no_trim s.0.paused.control
  phase_trims job (phases.Complete q) s = no_trim s.0.paused.control

  pub both_trims : (job : Option SplitJob) → FollowsBoth generation range w i job r m l → Trims
  both_trims None f = follows_trims f
  both_trims (Some job) f = phase_trims job job.phase f.stands

-- ---- a server

-- the two ranges of each split are counted, once it has numbers
abbrev pub HasCounted : ServerState → Type 0
HasCounted st = (range : ℕ) (job : SplitJob) → split_of st.splits range ≡ Some job → IsNumbered job.phase → (1 ≤ job.low) × (1 ≤ job.high)

pub known_counted : (c : Cluster) → KnowsSplits c → (s : ℕ) (cell : ServerCell) (st : ServerState) → entry_at c.servers s ≡ Some cell → cell.state ≡ Some st → HasCounted st
known_counted c known s cell st at is range job was = job_counted c known s range job (record { cell = cell; state = st; there = at; runs = is; found = was })

-- before a split asks for the streams of the two ranges their metadata is not there
abbrev pub HasUnbuilt : StreamSystem → ServerState → Type 0
HasUnbuilt w st = (range : ℕ) (job : SplitJob) → split_of st.splits range ≡ Some job → stage_of job.phase ≡ 1 → HasNoSides w job

-- so it is in runs without merges
pub known_absent : (c : Cluster) → KnowsSplits c → (s : ℕ) (cell : ServerCell) (st : ServerState) → entry_at c.servers s ≡ Some cell → cell.state ≡ Some st → HasUnbuilt c.stream_layer st
known_absent c known s cell st at is range job was first side there =
    let two = (known_streams c known s range job (record { cell = cell; state = st; there = at; up = is; found = was }) (omega (arith, first)) (side_range job side) (side_is job side (side_range job side) refl) there).0 in
    omega (arith, two, first)

module _ (generation : ℕ → ℕ) (nodes target : ℕ) {base : Bases generation} (c : Cluster) (y : ServerRun) (x : Standing generation nodes target base c y) (s : ℕ) (cell : ServerCell) (st : ServerState) (at : entry_at c.servers s ≡ Some cell) (is : cell.state ≡ Some st) where
  -- where it is told of streams that it opened, their blob stream is closed
  abbrev pub AreTold : Type 0
  AreTold = (range : ℕ) (r : RangeState) → range_of st.ranges range ≡ Some r → (p : Packet) → Contains c.stream_layer.post p → p.to ≡ Server s → BlobTold r p.body

  -- so an answer to a range leaves what it knows of it closed
  pub answer_left : HasClosed st → AreTold → (range : ℕ) (r : RangeState) → range_of st.ranges range ≡ Some r → (p : Packet) → Contains c.stream_layer.post p → p.to ≡ Server s → (u : ReqNo) → answered_number p.body ≡ Some u →
      BlobClosedIf (answer_rule st.context r u p.body).after
  answer_left closed told range r found p there to u number =
      let held = (numbers.run_of generation nodes target c y x s cell st at is).held range r found in
      let w : StreamSystem = here generation nodes target x.moves in
      let m : Stands = m_side generation (x.machines range) held.incarnation in
      let l : Stands = l_side generation (x.machines range) held.incarnation in
      answer_closed st.context generation range w held.incarnation l.stand l.sent r (closed range r found) u p.body number (told range r found p there to)
      (λ waits. both_trims generation range w held.incarnation m l r u waits (split_of st.splits range) held.holds.follows)

  -- the appends of keys
  pub record KeysOwed : Type 0 where
    pub says : (range : ℕ) (r : RangeState) (found : range_of st.ranges range ≡ Some r) (job : SplitJob) (was : split_of st.splits range ≡ Some job) (p : Packet) → Contains c.stream_layer.post p → p.to ≡ Server s → is_answerer p.from p.body ≡ true → (u : ReqNo) →
        answered_number p.body ≡ Some u → phase_awaits job.phase u ≡ true → TellsBuilt p.body → (q : ReqNo) → job.phase ≡ phases.Build q →
        splits.Heard generation nodes target c y x s cell st at is range r found job was (says_keys st.context r job Low) (keys_said r job Low)
    pub keys : (range : ℕ) (r : RangeState) (found : range_of st.ranges range ≡ Some r) (job : SplitJob) (was : split_of st.splits range ≡ Some job) (p : Packet) → Contains c.stream_layer.post p → p.to ≡ Server s → is_answerer p.from p.body ≡ true → (u : ReqNo) →
        answered_number p.body ≡ Some u → phase_awaits job.phase u ≡ true → (side : Side) (k : ClientState) → job.phase ≡ phases.Keys side k →
        splits.Heard generation nodes target c y x s cell st at is range r found job was (keys_reply st.context r job side k p.body) (keys_told r job side k (reply_rule (picking st.context k) (request st.context) p.body).news)

  -- and where it gives up
  abbrev pub KeysAgain : Type 0
  KeysAgain =
      (range : ℕ) (r : RangeState) (found : range_of st.ranges range ≡ Some r) (job : SplitJob) (was : split_of st.splits range ≡ Some job) (next : RangeState) (there : (give_up_all st.context r).after ≡ Some next) (side : Side) (k : ClientState) →
      job.phase ≡ phases.Keys side k →
      behind.GoesOn generation nodes target c y x s cell st at is range r found job was (give_up_all st.context r) [] (splits.gave_acted generation nodes target c y x s cell st at is range r found job was)
      (splits.gave_from generation nodes target c y x s cell st at is range r found job was) (splits.gave_left generation nodes target c y x s cell st at is range r found job was) next there
      (splits.gave_kept generation nodes target c y x s cell st at is range r found job was next there)
      (keys_again (counted st.context (give_up_all st.context r)) next job side k)

  module _ (pairs : HasCounted st) (absent : HasUnbuilt c.stream_layer st) where
    pub leaving_owed : KeysAgain → LeavingOwed generation nodes target c y x s cell st at is
    leaving_owed again range r found job was next there = record {
      keys = again range r found job was next there;
      builds = gives_up_counted (counted st.context (give_up_all st.context r)) job c.stream_layer next (pairs range job was) (absent range job was);
    }

    module _ (closed : HasClosed st) where
      rule_owed : (range : ℕ) (r : RangeState) (found : range_of st.ranges range ≡ Some r) (job : SplitJob) (was : split_of st.splits range ≡ Some job) (o : RangeOutcome) → BlobClosedIf o.after → splits.Owed generation nodes target c y x s cell st at is range r found job was o
      rule_owed range r found job was o stays = record {
        blob = λ next there. closed_blob next.blob_data.extents (subst BlobClosedIf there stays);
        builds = λ next there. follows_counted (counted st.context o) job c.stream_layer next (pairs range job was) (absent range job was);
      }

      -- a server whose ranges know closed blob streams owes the appends of keys alone
      pub splits_owed : KnowsSplits c → AreTold → KeysOwed → SplitsOwed generation nodes target c y x s cell st at is
      splits_owed known told owed = record {
        transacts = λ range r found job was from q changes. rule_owed range r found job was (transact_rule st.context r from q changes) (transact_closed st.context r (closed range r found) from q changes);
        gets = λ range r found job was from q key. rule_owed range r found job was (get_rule st.context r from q key) (get_closed st.context r (closed range r found) from q key);
        answers = λ range r found job was p there to u number. rule_owed range r found job was (answer_rule st.context r u p.body) (answer_left closed told range r found p there to u number);
        hears = λ range r found job was p there to gives u number waits. record {
          numbered = λ v begins. told_apart c known s range job (record { cell = cell; state = st; there = at; runs = is; found = was }) v begins p there u number waits;
          builds = reply_counted st.context job c.stream_layer r (pairs range job was) (absent range job was) p.body;
          says = owed.says range r found job was p there to gives u number waits;
          keys = owed.keys range r found job was p there to gives u number waits;
        };
      }
