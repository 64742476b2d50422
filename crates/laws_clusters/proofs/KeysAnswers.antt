-- What a split does on the metadata of the two ranges that it makes, at each answer that it waits for and where it gives up: a cluster stands on.
use Rattle.std.proofs.Common.{◌≡◌, ℕ, ◌≤◌, true, List, [], ◌∷◌, Option, Some, None, Contains, sym, subst, arith}
use Rattle.wire.specs.declared.actor.ActorId.TheVariants.{Server}
use Rattle.wire.specs.declared.actor.ReqNo.{ReqNo}
use Rattle.wire.specs.declared.body.Body.TheVariants as bodies
use Rattle.wire.specs.declared.body.MapBody.TheVariants as maps
use Rattle.wire.specs.declared.note.Note.TheVariants.{Acked}
use Rattle.wire.specs.declared.packet.Packet.{Packet}
use Rattle.wire.specs.declared.streams.StreamKind.TheVariants as kinds
use Rattle.replica.specs.Groups.{Group}
use Rattle.client.specs.declared.job.News.TheVariants as news
use Rattle.client.specs.Client.{ClientState, reply_rule}
use Rattle.model_streams.specs.Maps.{entry_at}
use Rattle.model_streams.specs.Outcome.{packet}
use Rattle.model_streams.specs.StreamSystem.{StreamSystem}
use Rattle.model_partition.specs.declared.split_job.Side.{Side as SplitSide}
use Rattle.model_partition.specs.declared.split_job.Side.TheVariants.{Low, High}
use Rattle.model_partition.specs.declared.split_job.SplitJob.{SplitJob}
use Rattle.model_partition.specs.declared.split_job.SplitPhase.{SplitPhase}
use Rattle.model_partition.specs.declared.split_job.SplitPhase.TheVariants as phases
use Rattle.model_partition.specs.Answering.{is_answerer}
use Rattle.model_partition.specs.Cluster.{Cluster}
use Rattle.model_partition.specs.Range.{RangeState, request, picking}
use Rattle.model_partition.specs.Server.{ServerState, range_of, split_of}
use Rattle.model_partition.specs.Servers.{ServerCell}
use Rattle.model_partition.specs.Splits.{SplitStep, side_range, may_say_keys, appends_keys, keys_reply, keys_again}
use Rattle.model_histories.specs.ServerRun.{ServerRun}
use Rattle.model_histories.specs.ServerTurns.{after_all}
use Rattle.model_histories.specs.StreamActions.{SideAction, Forms, keys_told}
use Rattle.laws_stream_machine.specs.Refinement.{Means, purpose_of}
use Rattle.laws_ranges.specs.Seen.{BeganAt}
use Rattle.laws_ranges.specs.Serves.{Side, IsCounted, Listed, metadata_of}
use Rattle.laws_ranges.specs.SplitJobs.{AreOthers, PhaseStands, FollowsSplit}
use Rattle.laws_ranges.specs.SplitSides.{keys_group, SideWaits, SideAppends, SidesStand, SidesGo}
use Rattle.laws_ranges.proofs.SplitKeys.{says_low, keys_answered, keys_given_up}
use Rattle.laws_ranges.proofs.TurnsAsMoves.{is_counted}
use Rattle.laws_servers.specs.Sending.{AllFromServers}
use Rattle.laws_clusters.proofs.AckedAppends.{client_acked}
use Rattle.laws_clusters.proofs.Invariant.{IsMaking, LogRests, SideIsThere, KeysStand, here, m_side, l_side, Standing, Bases}
use Rattle.laws_clusters.proofs.KeyActions.{SidesAreOfKeys, said_keys, told_keys}
use Rattle.laws_clusters.proofs.KeysHeard as heard
use Rattle.laws_clusters.proofs.MapWords.{IsFounded}
use Rattle.laws_clusters.proofs.MidstOfSteps.{calm_firm}
use Rattle.laws_clusters.proofs.RangeRules.{both, metadata_below}
use Rattle.laws_clusters.proofs.RangeStreams.{HasStreams}
use Rattle.laws_clusters.proofs.ServerNumbers as numbers
use Rattle.laws_clusters.proofs.SplitLeaves.{Leaves}
use Rattle.laws_clusters.proofs.SplitPackets as own
use Rattle.laws_clusters.proofs.SplitRequests.{BuildsNew}
use Rattle.laws_clusters.proofs.StepShapes.{AreLeft}

module _ (generation : ℕ → ℕ) (nodes target : ℕ) {base : Bases generation} (c : Cluster) (y : ServerRun) (x : Standing generation nodes target base c y) (calm : base.midst ≡ None) (s : ℕ) (cell : ServerCell) (st : ServerState) (at : entry_at c.servers s ≡ Some cell)
    (is : cell.state ≡ Some st) (range : ℕ) (r : RangeState) (found : range_of st.ranges range ≡ Some r) (job : SplitJob) (was : split_of st.splits range ≡ Some job)
    (ranges : Option RangeState → List (ℕ × RangeState)) (shape : (o : Option RangeState) → AreLeft st.ranges (ranges o) range o) where
  abbrev i : ℕ
  i = own.i generation nodes target c y x s cell st at is range r found (Some job) was

  abbrev w : StreamSystem
  w = here generation nodes target x.moves

  abbrev a : Side
  a = m_side generation (x.machines job.low) i

  abbrev b : Side
  b = m_side generation (x.machines job.high) i

  abbrev m : Side
  m = m_side generation (x.machines range) i

  abbrev l : Side
  l = l_side generation (x.machines range) i

  follows : FollowsSplit generation range w i m l r job
  follows = (own.holds generation nodes target c y x s cell st at is range r found (Some job) was).follows

  at_phase : (phase : SplitPhase) → job.phase ≡ phase → PhaseStands generation range w i m l r job phase
  at_phase phase e = subst (λ z. PhaseStands generation range w i m l r job z) e follows.stands

  others_at : (phase : SplitPhase) → job.phase ≡ phase → AreOthers range job phase
  others_at phase e = subst (λ z. AreOthers range job z) e follows.others

  -- how its two ranges stand
  keys_at : (phase : SplitPhase) → job.phase ≡ phase → KeysStand generation nodes target x.moves x.machines (y.history s) i r job phase
  keys_at phase e =
      subst (λ z. KeysStand generation nodes target x.moves x.machines (y.history s) i r job z) e
      (x.keys s range r job (record { cell = cell; state = st; there = at; up = is; found = found }) (record { cell = cell; state = st; there = at; up = is; found = was }) (calm_firm generation base s range calm) i
      (own.held generation nodes target c y x s cell st at is range r found (Some job) was).is)

  abbrev IsThereAt : SplitSide → Type 0
  IsThereAt side = SideIsThere generation nodes target x.moves x.machines (y.history s) i r job side

  founded : (side : SplitSide) → IsThereAt side → IsFounded c.stream_layer (side_range job side)
  founded side there = (there.counted, subst (λ (v : StreamSystem). HasStreams v (side_range job side)) x.leads there.streams)

  listed : (side : SplitSide) → IsThereAt side → Listed w (metadata_of (side_range job side))
  listed side there = (both generation nodes target c y x (side_range job side) (founded side there)).metadata

  fresh : (j : ℕ) → purpose_of (x.machines j).m_sent (request st.context) ≡ None
  fresh j = (numbers.sent_by generation nodes target c y x s cell st at is j).metadata st.context.count (omega arith)

  counted : (j : ℕ) → IsCounted i (m_side generation (x.machines j) i).stand
  counted j = is_counted generation i (x.machines j).m (x.beside j).m_are

  -- what is so of a step, which does this with the streams of the two
  abbrev pub Stepped : IsMaking job.phase → (low : IsThereAt Low) → (high : IsThereAt High) → (sides : List SideAction) → SidesAreOfKeys w.notes sides → SplitStep → Type 0
  Stepped making low high sides keyed t = heard.Stepped generation nodes target c y x calm s cell st at is range r found job was making ranges shape low high sides keyed t

  -- ---- the streams of the two are built

  module _ (q : ReqNo) (e : job.phase ≡ phases.Build q) (low_there : HasStreams c.stream_layer job.low) (high_there : HasStreams c.stream_layer job.high) (low_counted : 1 ≤ job.low) (high_counted : 1 ≤ job.high) where
    -- the two are being made
    pub build_making : IsMaking job.phase
    build_making = subst IsMaking (sym e) tt

    there_here : (j : ℕ) → HasStreams c.stream_layer j → HasStreams w j
    there_here j = subst (λ (v : StreamSystem). HasStreams v j) (sym x.leads)

    low_waits : SideWaits generation w i a r job Low × LogRests generation nodes target x.moves x.machines (y.history s) i r job Low
    low_waits = keys_at (phases.Build q) e Low (there_here job.low low_there kinds.Metadata)

    high_waits : SideWaits generation w i b r job High × LogRests generation nodes target x.moves x.machines (y.history s) i r job High
    high_waits = keys_at (phases.Build q) e High (there_here job.high high_there kinds.Metadata)

    -- the lower range is there
    pub low_built : IsThereAt Low
    low_built = record {
      counted = low_counted;
      streams = there_here job.low low_there;
      append = subst (λ p. BeganAt ((y.history s job.low).append kinds.Metadata) p) (sym (low_waits.0 st.context).stands) tt;
      log = low_waits.1;
    }

    -- and the higher one
    pub high_built : IsThereAt High
    high_built = record {
      counted = high_counted;
      streams = there_here job.high high_there;
      append = subst (λ p. BeganAt ((y.history s job.high).append kinds.Metadata) p) (sym (high_waits.0 st.context).stands) tt;
      log = high_waits.1;
    }

    abbrev said : List SideAction
    said = record { range = job.low; action = Forms kinds.Metadata (keys_group r job Low) } ∷ []

    says_go : may_say_keys r job ≡ true → SidesGo generation w i range m l a b st.context r job (appends_keys st.context r job Low) said
    says_go may =
        let stands = at_phase (phases.Build q) e in
        says_low generation range w i m l a b st.context r job follows (listed Low low_built) (listed High high_built) (fresh job.low) (fresh job.high) (others_at (phases.Build q) e) stands.0 stands.1 may low_waits.0 high_waits.0

    -- those of the lower range are appended
    pub built_stepped : may_say_keys r job ≡ true → AllFromServers (appends_keys st.context r job Low).packets → Leaves st.context r job (appends_keys st.context r job Low) → BuildsNew c.stream_layer r job (appends_keys st.context r job Low) →
        Stepped build_making low_built high_built said (said_keys w.notes r job Low) (appends_keys st.context r job Low)
    built_stepped may senders leaves builds =
        heard.keys_stepped generation nodes target c y x calm s cell st at is range r found job was build_making ranges shape low_built high_built said (said_keys w.notes r job Low) (appends_keys st.context r job Low) (says_go may) senders leaves builds

  -- ---- keys are being appended

  module _ (side : SplitSide) (k : ClientState) (e : job.phase ≡ phases.Keys side k) where
    -- the two are being made
    pub keys_making : IsMaking job.phase
    keys_making = subst IsMaking (sym e) tt

    stand : SidesStand generation w i a b r job (phases.Keys side k)
    stand = (keys_at (phases.Keys side k) e).0

    -- the lower range is there
    pub low_is : IsThereAt Low
    low_is = (keys_at (phases.Keys side k) e).1 Low

    -- and the higher one
    pub high_is : IsThereAt High
    high_is = (keys_at (phases.Keys side k) e).1 High

    module _ (p : Packet) (sent : Contains c.stream_layer.post p) (to : p.to ≡ Server s) (gives : is_answerer p.from p.body ≡ true) where
      there : Contains w.post (packet p.from (Server s) p.body)
      there = subst (λ z. Contains w.post (packet p.from z p.body)) to (subst (λ (z : StreamSystem). Contains z.post p) (sym x.leads) sent)

      means : (part : SplitSide) → IsThereAt part → Means generation (metadata_of (side_range job part)) w (after_all Group generation (x.machines (side_range job part)).m).state (x.machines (side_range job part)).m_sent p.body
      means part made = (metadata_below generation nodes target c y x (side_range job part) (founded part made)).mean p.from s p.body there gives

      -- what stands was acknowledged
      part_acked : (part : SplitSide) → IsThereAt part → SideAppends generation w i (m_side generation (x.machines (side_range job part)) i) r job part k → (extent offset : ℕ) →
          (reply_rule (picking st.context k) (request st.context) p.body).news ≡ Some (news.Appended extent offset) → Contains w.notes (Acked extent offset k.group)
      part_acked part made appends =
          client_acked generation (metadata_of (side_range job part)) nodes target x.moves (after_all Group generation (x.machines (side_range job part)).m) (x.machines (side_range job part)).m_sent
          (metadata_below generation nodes target c y x (side_range job part) (founded part made)) i k appends.client.told appends.client.job st.context p.from s p.body there (means part made)

      acked : (part : SplitSide) → SidesStand generation w i a b r job (phases.Keys part k) → (extent offset : ℕ) → (reply_rule (picking st.context k) (request st.context) p.body).news ≡ Some (news.Appended extent offset) →
          Contains w.notes (Acked extent offset k.group)
      acked Low so = part_acked Low low_is so.0
      acked High so = part_acked High high_is so

      abbrev done : List SideAction
      done = keys_told r job side k (reply_rule (picking st.context k) (request st.context) p.body).news

      -- which is all of keys
      pub done_keys : SidesAreOfKeys w.notes done
      done_keys = told_keys w.notes r job side k (reply_rule (picking st.context k) (request st.context) p.body).news (acked side stand)

      answer_goes : SidesGo generation w i range m l a b st.context r job (keys_reply st.context r job side k p.body) done
      answer_goes =
          let stands = at_phase (phases.Keys side k) e in
          keys_answered generation range w i m l a b st.context r job follows (listed Low low_is) (listed High high_is) (fresh job.low) (fresh job.high) (others_at (phases.Keys side k) e) stands.0 stands.1 stands.2 p.body (counted job.low) (counted job.high)
          (means Low low_is) (means High high_is) side k stand

      -- an answer that the client of one of them waits for
      pub answer_stepped : AllFromServers (keys_reply st.context r job side k p.body).packets → Leaves st.context r job (keys_reply st.context r job side k p.body) → BuildsNew c.stream_layer r job (keys_reply st.context r job side k p.body) →
          Stepped keys_making low_is high_is done done_keys (keys_reply st.context r job side k p.body)
      answer_stepped senders leaves builds =
          heard.keys_stepped generation nodes target c y x calm s cell st at is range r found job was keys_making ranges shape low_is high_is done done_keys (keys_reply st.context r job side k p.body) answer_goes senders leaves builds

    again_goes : SidesGo generation w i range m l a b st.context r job (keys_again st.context r job side k) []
    again_goes =
        let stands = at_phase (phases.Keys side k) e in
        keys_given_up generation range w i m l a b st.context r job follows (listed Low low_is) (listed High high_is) (fresh job.low) (fresh job.high) (others_at (phases.Keys side k) e) stands.0 stands.1 stands.2 (bodies.Map (maps.SplitDone (request st.context))) side k stand

    -- it gives up
    pub again_stepped : AllFromServers (keys_again st.context r job side k).packets → Leaves st.context r job (keys_again st.context r job side k) → BuildsNew c.stream_layer r job (keys_again st.context r job side k) →
        Stepped keys_making low_is high_is [] tt (keys_again st.context r job side k)
    again_stepped senders leaves builds =
        heard.keys_stepped generation nodes target c y x calm s cell st at is range r found job was keys_making ranges shape low_is high_is [] tt (keys_again st.context r job side k) again_goes senders leaves builds
