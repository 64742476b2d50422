-- A cluster stands on whatever a server does with a range that is being split: a rule of the range, an answer to its split, giving up, and
-- the beginning of a split.
use Rattle.std.proofs.Common.{◌≡◌, ℕ, suc, true, false, List, [], ◌++◌, Option, Some, None, Contains, refl, sym, ap, ◌∙◌, subst, inl, inr, arith, append-nil}
use Rattle.std.proofs.lemmas.Option.{same_Some}
use Rattle.wire.specs.declared.actor.ActorId.{ActorId}
use Rattle.wire.specs.declared.actor.ActorId.TheVariants.{Server}
use Rattle.wire.specs.declared.actor.ReqNo.{ReqNo}
use Rattle.wire.specs.declared.body.Body.{Body}
use Rattle.wire.specs.declared.body.Body.TheVariants as bodies
use Rattle.wire.specs.declared.body.MapBody.TheVariants as maps
use Rattle.wire.specs.declared.packet.Packet.{Packet}
use Rattle.wire.specs.declared.transaction.Change.{Change}
use Rattle.model_streams.specs.Maps.{entry_at}
use Rattle.model_streams.specs.Outcome.{packet}
use Rattle.client.specs.Client.{ClientState, reply_rule}
use Rattle.client.specs.Requests.{is_same}
use Rattle.model_streams.specs.StreamSystem.{StreamSystem}
use Rattle.model_partition.specs.declared.split_job.Side.{Side}
use Rattle.model_partition.specs.declared.split_job.Side.TheVariants.{Low}
use Rattle.model_partition.specs.declared.stage.Stage.TheVariants as stages
use Rattle.model_partition.specs.declared.split_job.SplitJob.{SplitJob}
use Rattle.model_partition.specs.declared.split_job.SplitPhase.{SplitPhase}
use Rattle.model_partition.specs.declared.split_job.SplitPhase.TheVariants as phases
use Rattle.model_partition.specs.Answering.{answered_number, is_answerer, answer_rule, give_up_all}
use Rattle.model_partition.specs.Cluster.{Cluster}
use Rattle.model_partition.specs.Getting.{get_rule}
use Rattle.model_partition.specs.Range.{RangeState, RangeOutcome, request, picking}
use Rattle.model_partition.specs.Server.{ServerState, ServerOutcome, range_of, set_range, split_of, set_split, counted, stepped_splitting, split_stepped, given_up_splitting}
use Rattle.model_partition.specs.Servers.{ServerCell}
use Rattle.model_partition.specs.Serving.{transact_rule}
use Rattle.model_partition.specs.Splits.{SplitStep, open_last, new_split, split_rule, follows, stays, map_told, phase_awaits, split_reply_in, split_reply, says_keys, keys_reply, keys_again, gives_up}
use Rattle.model_histories.specs.ServerRun.{ServerRun, RangeEffect, Does, Tells, Rests}
use Rattle.model_histories.specs.StreamActions.{StreamAction, SideAction, keys_said, keys_told, sides_in, split_sides, transact_actions, answer_actions, split_stood, followed_actions}
use Rattle.laws_ranges.specs.SplitJobs.{waits_seal, waits_call, TellsBuilt, LeavesKeys, SplitSees}
use Rattle.laws_ranges.proofs.SplitsPaused.{KeepsKeys, KeepsKeysIf, IsRecorded, transact_keeps, get_keeps, answer_keeps, give_up_keeps}
use Rattle.laws_ranges.proofs.SplitBegins.{begins_split}
use Rattle.laws_ranges.proofs.SplitReplies.{reply_split}
use Rattle.laws_stream_machine.proofs.ServerRequests.{same_request}
use Rattle.laws_clusters.proofs.RangeRules.{both, metadata_below, log_below}
use Rattle.laws_clusters.proofs.RowSteps.{WasOut, IsNew}
use Rattle.laws_clusters.proofs.MapWords.{IsFounded}
use Rattle.laws_clusters.proofs.SplitRequests.{AllSent, BuildsNew}
use Rattle.laws_ranges.proofs.SplitsKept.{both_under, both_row_data}
use Rattle.laws_servers.specs.Sending.{AllFromServers}
use Rattle.laws_servers.proofs.ClientPackets.{from_servers}
use Rattle.laws_servers.proofs.RangeSteps.{transact_tidy, get_tidy, answer_shows, give_up_tidy}
use Rattle.laws_server_runs.specs.RunInvariant.{view_at}
use Rattle.laws_clusters.proofs.Invariant.{IsMaking, m_side, l_side, KeysStand, Standing, Bases}
use Rattle.laws_clusters.proofs.KeptKeys.{making_recorded}
use Rattle.laws_clusters.proofs.OtherEvents.{rule_done, run_done}
use Rattle.laws_clusters.proofs.RowPurposes.{rows_unread}
use Rattle.laws_clusters.proofs.RowRules.{LeavesRows, transact_leaves, get_leaves, answer_leaves, give_up_leaves}
use Rattle.laws_clusters.proofs.ClientJobs.{ReadsNothing}
use Rattle.laws_clusters.proofs.ServerRules.{AreLaid}
use Rattle.laws_clusters.proofs.StepShapes.{RowsWaited, StepWaits}
use Rattle.laws_clusters.proofs.SplitLeaves.{same_out, Leaves, leaves_none, reply_leaves, gives_up_leaves, begins_so}
use Rattle.laws_servers.proofs.SplitSteps.{split_sends, split_reply_sends, split_gives_up_sends}
use Rattle.laws_clusters.proofs.SplitBehind as behind
use Rattle.laws_clusters.proofs.SplitPackets as one
use Rattle.laws_clusters.proofs.SplitRules.{beside_step, acted, split_acted, transact_beside, get_beside, give_up_beside, answer_beside}
use Rattle.laws_clusters.proofs.SplitStands as split

module _ (generation : ℕ → ℕ) (nodes target : ℕ) {base : Bases generation} (c : Cluster) (y : ServerRun) (x : Standing generation nodes target base c y) (s : ℕ) (cell : ServerCell) (st : ServerState) (at : entry_at c.servers s ≡ Some cell) (is : cell.state ≡ Some st)
    (range : ℕ) (r : RangeState) (found : range_of st.ranges range ≡ Some r) (job : SplitJob) (was : split_of st.splits range ≡ Some job) where
  -- a rule of the server, which does this with streams, leaves a cluster that stands
  abbrev pub Good : RangeEffect → ServerOutcome → Type 0
  Good effect o = AreLaid (run_done c y s cell effect o) o.notes → Standing generation nodes target base (rule_done c s cell o) (run_done c y s cell effect o)

  abbrev Acts : RangeOutcome → List StreamAction → Type 0
  Acts o actions = split.Does generation nodes target c y x s cell st at is range r found job was (beside_step job o) actions

  under : generation (one.i generation nodes target c y x s cell st at is range r found (Some job) was) ≡ r.load.generation
  under =
      let i : ℕ = one.i generation nodes target c y x s cell st at is range r found (Some job) was in
      sym (both_under generation range (one.w generation nodes target c y x s cell st at is range r found (Some job) was) i (m_side generation (x.machines range) i) (l_side generation (x.machines range) i) r (Some job)
      (one.holds generation nodes target c y x s cell st at is range r found (Some job) was).follows)

  -- while the two ranges are being made the record of the split stands
  recorded : IsMaking job.phase → IsRecorded r
  recorded making =
      let i : ℕ = one.i generation nodes target c y x s cell st at is range r found (Some job) was in
      making_recorded generation range (one.w generation nodes target c y x s cell st at is range r found (Some job) was) i (m_side generation (x.machines range) i) (l_side generation (x.machines range) i) r job job.phase making
      (one.holds generation nodes target c y x s cell st at is range r found (Some job) was).follows.stands

  -- What is owed besides of what a rule of the range leaves: nobody appends to its blob stream, so that the last extent of that is sealed;
  -- and the two ranges of which the split is then to build streams are counted, and not there yet.
  pub record Owed (o : RangeOutcome) : Type 0 where
    pub blob : (next : RangeState) → o.after ≡ Some next → open_last next.blob_data.extents ≡ None
    pub builds : (next : RangeState) → o.after ≡ Some next → BuildsNew c.stream_layer next job (follows (counted st.context o) next job)

  -- a rule of the range, and what its split then does
  rule_good : (o : RangeOutcome) (actions : List StreamAction) → Acts o actions → AllFromServers o.packets → LeavesRows st.context r.rows o → (IsMaking job.phase → KeepsKeysIf r o.after) → Owed o →
      Good (Does range r.load.generation (followed_actions (counted st.context o) (Some job) o.after ++ actions)) (stepped_splitting st range job o o.after)
  rule_good o actions acted senders left kept owed = go o.after refl
    where
      go : (a : Option RangeState) → o.after ≡ a → Good (Does range r.load.generation (followed_actions (counted st.context o) (Some job) a ++ actions)) (stepped_splitting st range job o a)
      go None gone =
          subst (λ g. Good (Does range g actions) (stepped_splitting st range job o None)) under
          (λ laid. split.drop_stands generation nodes target c y x s cell st at is range r found job was o o.notes actions acted senders left gone laid)
      go (Some next) there =
          behind.follow_stands generation nodes target c y x s cell st at is range r found job was o actions acted senders left next there (λ making. subst (KeepsKeysIf r) there (kept making)) (owed.blob next there) (owed.builds next there)

  -- ---- rules

  abbrev i : ℕ
  i = one.i generation nodes target c y x s cell st at is range r found (Some job) was

  -- its streams are there
  abbrev founded : IsFounded c.stream_layer range
  founded = one.founded generation nodes target c y x s cell st at is range r found (Some job) was

  pub transact_good : (from : ActorId) (q : ReqNo) (changes : List Change) → Owed (transact_rule st.context r from q changes) →
      Good (Does range r.load.generation (followed_actions (counted st.context (transact_rule st.context r from q changes)) (Some job) (transact_rule st.context r from q changes).after ++ transact_actions r (transact_rule st.context r from q changes)))
      (stepped_splitting st range job (transact_rule st.context r from q changes) (transact_rule st.context r from q changes).after)
  transact_good from q changes owed =
      let o : RangeOutcome = transact_rule st.context r from q changes in
      rule_good o (transact_actions r o)
      (transact_beside generation nodes target c y x range founded i st.context (one.sent_by generation nodes target c y x s cell st at is range r found (Some job) was) (view_at range y s)
      (one.seen_here generation nodes target c y x s cell st at is range r found (Some job) was) r job (one.holds generation nodes target c y x s cell st at is range r found (Some job) was).follows
      (one.past_rows generation nodes target c y x s cell st at is range r found (Some job) was) from q changes)
      (from_servers o.packets (transact_tidy st.context r from q changes).0) (transact_leaves st.context r from q changes) (λ making. transact_keeps st.context r from q changes) owed

  pub get_good : (from : ActorId) (q : ReqNo) (key : List ℕ) → Owed (get_rule st.context r from q key) →
      Good (Does range r.load.generation (followed_actions (counted st.context (get_rule st.context r from q key)) (Some job) (get_rule st.context r from q key).after)) (stepped_splitting st range job (get_rule st.context r from q key) (get_rule st.context r from q key).after)
  get_good from q key owed =
      let o : RangeOutcome = get_rule st.context r from q key in
      subst (λ l. Good (Does range r.load.generation l) (stepped_splitting st range job o o.after)) (append-nil (followed_actions (counted st.context o) (Some job) o.after))
      (rule_good o []
      (get_beside generation nodes target c y x range founded i st.context (one.sent_by generation nodes target c y x s cell st at is range r found (Some job) was) (view_at range y s)
      (one.seen_here generation nodes target c y x s cell st at is range r found (Some job) was) r job (one.holds generation nodes target c y x s cell st at is range r found (Some job) was).follows
      (one.past_rows generation nodes target c y x s cell st at is range r found (Some job) was) from q key)
      (from_servers o.packets (get_tidy st.context r from q key).0) (get_leaves st.context r from q key) (λ making. get_keeps st.context r from q key) owed)

  pub answer_good : (p : Packet) → Contains (one.w generation nodes target c y x s cell st at is range r found (Some job) was).post (packet p.from (Server s) p.body) → is_answerer p.from p.body ≡ true → (u : ReqNo) → answered_number p.body ≡ Some u →
      Owed (answer_rule st.context r u p.body) →
      Good
      (Does range r.load.generation
      (followed_actions (counted st.context (answer_rule st.context r u p.body)) (Some job) (answer_rule st.context r u p.body).after
      ++ (split_stood st.context r (Some job) u p.body (answer_rule st.context r u p.body) ++ answer_actions st.context r u p.body (answer_rule st.context r u p.body))))
      (stepped_splitting st range job (answer_rule st.context r u p.body) (answer_rule st.context r u p.body).after)
  answer_good p there gives u number owed =
      let o : RangeOutcome = answer_rule st.context r u p.body in
      rule_good o (split_stood st.context r (Some job) u p.body o ++ answer_actions st.context r u p.body o)
      (answer_beside generation nodes target c y x range founded i st.context (one.sent_by generation nodes target c y x s cell st at is range r found (Some job) was) (view_at range y s)
      (one.seen_here generation nodes target c y x s cell st at is range r found (Some job) was) r job (one.holds generation nodes target c y x s cell st at is range r found (Some job) was).follows
      (one.past_rows generation nodes target c y x s cell st at is range r found (Some job) was) (one.rows_asked generation nodes target c y x s cell st at is range r found (Some job) was) p.from s p.body there gives u number)
      (from_servers o.packets (answer_shows st.context r u p.body).0) (answer_leaves st.context r u p.body) (λ making. answer_keeps st.context r (recorded making) u p.body) owed

  -- ---- it gives up, and its split behind it

  abbrev given : RangeOutcome
  given = give_up_all st.context r

  unread : ReadsNothing r.rows.job
  unread =
      let w : StreamSystem = one.w generation nodes target c y x s cell st at is range r found (Some job) was in
      rows_unread range w (x.machines range).m_sent (x.machines range).l_sent r.rows.job
      (both_row_data generation range w i (m_side generation (x.machines range) i) (l_side generation (x.machines range) i) r (Some job) (one.holds generation nodes target c y x s cell st at is range r found (Some job) was).follows).job

  pub gave_acted : Acts given []
  gave_acted =
      give_up_beside generation nodes target c y x range founded i st.context (one.sent_by generation nodes target c y x s cell st at is range r found (Some job) was) (view_at range y s)
      (one.seen_here generation nodes target c y x s cell st at is range r found (Some job) was) r job (one.holds generation nodes target c y x s cell st at is range r found (Some job) was).follows
      (one.past_rows generation nodes target c y x s cell st at is range r found (Some job) was)

  pub gave_from : AllFromServers given.packets
  gave_from = from_servers given.packets (give_up_tidy st.context r).0

  pub gave_left : LeavesRows st.context r.rows given
  gave_left = give_up_leaves st.context r unread

  -- what its keys are made of is as it was
  pub gave_kept : (next : RangeState) → given.after ≡ Some next → IsMaking job.phase → KeepsKeys r next
  gave_kept next there making = subst (KeepsKeysIf r) there (give_up_keeps st.context r (recorded making))

  -- what is owed besides: where keys are being appended, their append again; and what is then to be built is of ranges that are counted
  pub record OwedLeaving (next : RangeState) (there : given.after ≡ Some next) : Type 0 where
    pub keys : (side : Side) (k : ClientState) → job.phase ≡ phases.Keys side k →
        behind.GoesOn generation nodes target c y x s cell st at is range r found job was given [] gave_acted gave_from gave_left next there (gave_kept next there) (keys_again (counted st.context given) next job side k)
    pub builds : BuildsNew c.stream_layer next job (gives_up (counted st.context given) next job)

  pub give_up_good : ((next : RangeState) (there : given.after ≡ Some next) → OwedLeaving next there) → Good Rests (given_up_splitting st range job given given.after)
  give_up_good owed = go given.after refl
    where
      go : (a : Option RangeState) → given.after ≡ a → Good Rests (given_up_splitting st range job given a)
      go None gone = λ laid. split.drop_stands generation nodes target c y x s cell st at is range r found job was given given.notes [] gave_acted gave_from gave_left gone laid
      go (Some next) there =
          behind.leave_stands generation nodes target c y x s cell st at is range r found job was given [] gave_acted gave_from gave_left next there (gave_kept next there) (owed next there).keys
          (split_gives_up_sends (counted st.context given) next job) (gives_up_leaves (counted st.context given) next job) (owed next there).builds

  -- ---- an answer to its split

  -- what is so of a step of the split alone, which does this with the streams of the two ranges
  abbrev pub Heard : SplitStep → List SideAction → Type 0
  Heard t sides = AllFromServers t.packets → Leaves st.context r job t → BuildsNew c.stream_layer r job t → Good (Tells job.generation sides) (split_stepped st range t)

  -- so it is of one that adds nothing to them
  pub heard : (t : SplitStep) → SplitSees generation range (one.w generation nodes target c y x s cell st at is range r found (Some job) was) i (view_at range y s) (m_side generation (x.machines range) i) (l_side generation (x.machines range) i) st.context t [] →
      LeavesKeys st.context r job t → Heard t []
  heard t sees keys sends leaves builds laid =
      split.split_stands generation nodes target c y x s cell st at is range r found job was t [] []
      (split_acted generation nodes target c y x range founded i st.context (one.sent_by generation nodes target c y x s cell st at is range r found (Some job) was) (view_at range y s)
      (one.seen_here generation nodes target c y x s cell st at is range r found (Some job) was) r job (one.holds generation nodes target c y x s cell st at is range r found (Some job) was).follows
      (one.past_rows generation nodes target c y x s cell st at is range r found (Some job) was) t sees (leaves_none st.context r job t leaves))
      sends leaves keys.keys builds
      (set_range st.ranges range t.range) (one.shape_of generation nodes target c y x s cell st at is range r found (Some job) was t.range) (set_split st.splits range t.job)
      (one.splits_of generation nodes target c y x s cell st at is range r found (Some job) was t.job) laid

  -- What is owed besides: the numbers that the map gives are other ones, what is then to be built is of ranges that are counted, and the
  -- appends of keys.
  pub record OwedHearing (body : Body) : Type 0 where
    pub numbered : (v : ReqNo) → job.phase ≡ phases.Begin v → (q : ReqNo) (low high : ℕ) → body ≡ bodies.Map (maps.SplitBegun q low high) → (low ≡ range → ⊥) × (high ≡ range → ⊥)
    pub builds : BuildsNew c.stream_layer r job (split_reply st.context r job body)
    pub says : TellsBuilt body → (q : ReqNo) → job.phase ≡ phases.Build q → Heard (says_keys st.context r job Low) (keys_said r job Low)
    pub keys : (side : Side) (k : ClientState) → job.phase ≡ phases.Keys side k → Heard (keys_reply st.context r job side k body) (keys_told r job side k (reply_rule (picking st.context k) (request st.context) body).news)

  -- the numbers of a split come where it begins alone
  abbrev IsBehind : SplitPhase → Type 0
  IsBehind (phases.Begin q) = ⊥
  IsBehind (phases.Keys side k) = ⊥
  IsBehind phase = Unit {0}

  abbrev told_pair : ReqNo → ℕ → ℕ → Body
  told_pair q low high = bodies.Map (maps.SplitBegun q low high)

  stays_so : (phase : SplitPhase) → job.phase ≡ phase → IsBehind phase → (q : ReqNo) (low high : ℕ) → split_reply st.context r job (told_pair q low high) ≡ stays st.context r job
  stays_so phase e behind q low high = ap (λ p. split_reply_in st.context r job p (told_pair q low high)) e ∙ in_phase phase behind ∙ ap (λ p. map_told st.context r job p (maps.SplitBegun q low high)) e ∙ at_phase phase behind
    where
      in_phase : (phase : SplitPhase) → IsBehind phase → split_reply_in st.context r job phase (told_pair q low high) ≡ map_told st.context r job job.phase (maps.SplitBegun q low high)
      in_phase (phases.Begin v) behind = absurd behind
      in_phase (phases.Keys side k) behind = absurd behind
      in_phase phase behind = refl

      at_phase : (phase : SplitPhase) → IsBehind phase → map_told st.context r job phase (maps.SplitBegun q low high) ≡ stays st.context r job
      at_phase (phases.Begin v) behind = absurd behind
      at_phase phase behind = refl

  no_sides : (phase : SplitPhase) → job.phase ≡ phase → IsBehind phase → (q : ReqNo) (low high : ℕ) → split_sides st.context r job (told_pair q low high) ≡ []
  no_sides phase e behind q low high = ap (λ p. sides_in st.context r job p (told_pair q low high)) e ∙ at_phase phase behind
    where
      at_phase : (phase : SplitPhase) → IsBehind phase → sides_in st.context r job phase (told_pair q low high) ≡ []
      at_phase (phases.Keys side k) behind = absurd behind
      at_phase phase behind = refl

  abbrev HeardOf : Body → Type 0
  HeardOf body = Heard (split_reply st.context r job body) (split_sides st.context r job body)

  abbrev AreOthers : Body → Type 0
  AreOthers body = (q : ReqNo) (low high : ℕ) → body ≡ told_pair q low high → (low ≡ range → ⊥) × (high ≡ range → ⊥)

  pub reply_good : (p : Packet) → Contains (one.w generation nodes target c y x s cell st at is range r found (Some job) was).post (packet p.from (Server s) p.body) → is_answerer p.from p.body ≡ true → (u : ReqNo) → answered_number p.body ≡ Some u →
      phase_awaits job.phase u ≡ true → OwedHearing p.body → Good (Tells job.generation (split_sides st.context r job p.body)) (split_stepped st range (split_reply st.context r job p.body))
  reply_good p there gives u number waits owed = by_phase job.phase refl (split_reply_sends st.context r job p.body) (reply_leaves st.context r job p.body) owed.builds
    where
      replies : AreOthers p.body → HeardOf p.body
      replies numbered =
          reply_split generation range (one.w generation nodes target c y x s cell st at is range r found (Some job) was) i (both generation nodes target c y x range founded) (m_side generation (x.machines range) i) (l_side generation (x.machines range) i) st.context
          (one.sent_by generation nodes target c y x s cell st at is range r found (Some job) was) (view_at range y s) r job (one.holds generation nodes target c y x s cell st at is range r found (Some job) was).follows
          (one.past_rows generation nodes target c y x s cell st at is range r found (Some job) was) Heard heard u waits p.body owed.says (λ side k e. owed.keys side k e) number numbered
          ((metadata_below generation nodes target c y x range founded).mean p.from s p.body there gives) ((log_below generation nodes target c y x range founded).mean p.from s p.body there gives)

      -- numbers that are told to a split that has some leave it so, as others do
      tells : (phase : SplitPhase) → job.phase ≡ phase → IsBehind phase → (q : ReqNo) → answered_number (told_pair q 0 0) ≡ Some u → HeardOf (told_pair q (suc range) (suc range))
      tells phase e behind q same =
          reply_split generation range (one.w generation nodes target c y x s cell st at is range r found (Some job) was) i (both generation nodes target c y x range founded) (m_side generation (x.machines range) i) (l_side generation (x.machines range) i) st.context
          (one.sent_by generation nodes target c y x s cell st at is range r found (Some job) was) (view_at range y s) r job (one.holds generation nodes target c y x s cell st at is range r found (Some job) was).follows
          (one.past_rows generation nodes target c y x s cell st at is range r found (Some job) was) Heard heard u waits (told_pair q (suc range) (suc range)) (λ never. absurd never)
          (λ side k keys. absurd (subst IsBehind (sym e ∙ keys) behind)) same
          (λ v low high is_it. (λ a. (let b : suc range ≡ low = cc in omega (arith, a, b)), λ a. (let b : suc range ≡ high = cc in omega (arith, a, b)))) tt tt

      behind_good : (phase : SplitPhase) → job.phase ≡ phase → IsBehind phase → (body : Body) → p.body ≡ body → HeardOf p.body
      behind_good phase e behind (bodies.Map (maps.SplitBegun q low high)) is_it =
          let same : answered_number (told_pair q 0 0) ≡ Some u = sym (ap answered_number is_it) ∙ number in
          subst HeardOf (sym is_it)
          (subst (λ t. Heard t (split_sides st.context r job (told_pair q low high))) (stays_so phase e behind q (suc range) (suc range) ∙ sym (stays_so phase e behind q low high))
          (subst (λ l. Heard (split_reply st.context r job (told_pair q (suc range) (suc range))) l) (no_sides phase e behind q (suc range) (suc range) ∙ sym (no_sides phase e behind q low high)) (tells phase e behind q same)))
      behind_good phase e behind (bodies.Map body) is_it = replies (λ q low high other. absurd (let z : bodies.Map body ≡ told_pair q low high = sym is_it ∙ other in cc))
      behind_good phase e behind body is_it = replies (λ q low high other. absurd (let z : body ≡ told_pair q low high = sym is_it ∙ other in cc))

      by_phase : (phase : SplitPhase) → job.phase ≡ phase → HeardOf p.body
      by_phase (phases.Begin v) e = replies (owed.numbered v e)
      by_phase (phases.Keys side k) e = subst (λ z. Heard (split_reply_in st.context r job z p.body) (sides_in st.context r job z p.body)) (sym e) (owed.keys side k e)
      by_phase phase e = behind_good phase e tt p.body refl

-- ---- a split begins

module _ (generation : ℕ → ℕ) (nodes target : ℕ) {base : Bases generation} (c : Cluster) (y : ServerRun) (x : Standing generation nodes target base c y) (s : ℕ) (cell : ServerCell) (st : ServerState) (at : entry_at c.servers s ≡ Some cell) (is : cell.state ≡ Some st)
    (range : ℕ) (r : RangeState) (found : range_of st.ranges range ≡ Some r) (was : split_of st.splits range ≡ None) (serves : r.stage ≡ stages.Serving) (key : List ℕ) where
  abbrev begun : SplitStep
  begun = split_rule st.context r key

  abbrev begun_job : SplitJob
  begun_job = new_split st.context r key

  abbrev at_i : ℕ
  at_i = one.i generation nodes target c y x s cell st at is range r found None was

  begun_acted : one.Does generation nodes target c y x s cell st at is range r found None was begun []
  begun_acted =
      let there : IsFounded c.stream_layer range = one.founded generation nodes target c y x s cell st at is range r found None was in
      acted generation nodes target c y x range there at_i st.context (view_at range y s) begun []
      (begins_split generation range (one.w generation nodes target c y x s cell st at is range r found None was) at_i (both generation nodes target c y x range there) (m_side generation (x.machines range) at_i) (l_side generation (x.machines range) at_i) st.context
      (one.sent_by generation nodes target c y x s cell st at is range r found None was) (view_at range y s) r serves (one.holds generation nodes target c y x s cell st at is range r found None was).follows key)
      (λ e. absurd (let z : Some begun_job ≡ None = e in cc)) tt (one.seen_here generation nodes target c y x s cell st at is range r found None was)

  begun_waits : StepWaits st range begun begun.packets
  begun_waits next is_next =
      let same : r ≡ next = cc in
      record {
        rows = λ q waits. inl (waited next same q);
        seal = λ later e q waits. absurd (let job_is : begun_job ≡ later = cc in let z : false ≡ true = ap (λ (j : SplitJob). waits_seal j.phase q) job_is ∙ waits in cc);
        call = λ later e q waits. inr (let job_is : begun_job ≡ later = cc in new_call q (ap (λ (j : SplitJob). waits_call j.phase q) job_is ∙ waits));
        steady = inl (λ q waits. waited next same q);
        sent = subst (λ (z : RangeState). AllSent z (Some begun_job) begun.packets) same (begins_so st.context r key);
      }
    where
      waited : (next : RangeState) → r ≡ next → (q : ReqNo) → RowsWaited st range next q
      waited next same q = (r, found, subst (λ (z : RangeState). WasOut r.rows z.rows) same (same_out r.rows))

      new_call : (q : ReqNo) → is_same (request st.context) q ≡ true → IsNew st.context (suc st.context.count) q
      new_call q same = (st.context.count, omega arith, omega arith, sym (same_request (request st.context) q same))

  -- it waits for the numbers of the two
  begun_keys : one.OwnKeys generation nodes target c y x s cell st at is range r found None was begun
  begun_keys next is_next later is_later firm =
      let same : begun_job ≡ later = same_Some begun_job later is_later in
      subst (λ (z : SplitJob). KeysStand generation nodes target x.moves x.machines (y.history s) at_i next z z.phase) same tt

  pub begins_good : AreLaid (run_done c y s cell Rests (split_stepped st range begun)) [] → Standing generation nodes target base (rule_done c s cell (split_stepped st range begun)) (run_done c y s cell Rests (split_stepped st range begun))
  begins_good laid =
      one.step_stands generation nodes target c y x s cell st at is range r found None was begun [] [] begun_acted (split_sends st.context r key) begun_waits (λ e. absurd (let z : Some r ≡ None = e in cc)) (λ e. absurd (let z : Some r ≡ None = e in cc))
      (tt, tt) begun_keys (set_range st.ranges range (Some r)) (one.shape_of generation nodes target c y x s cell st at is range r found None was (Some r)) (set_split st.splits range (Some begun_job))
      (one.splits_of generation nodes target c y x s cell st at is range r found None was (Some begun_job)) laid

-- What is owed besides at a server whose ranges are being split, for what it takes: see each of them.
pub record SplitsOwed (generation : ℕ → ℕ) (nodes target : ℕ) {base : Bases generation} (c : Cluster) (y : ServerRun) (x : Standing generation nodes target base c y) (s : ℕ) (cell : ServerCell) (st : ServerState) (at : entry_at c.servers s ≡ Some cell) (is : cell.state ≡ Some st) : Type 0 where
  pub transacts : (range : ℕ) (r : RangeState) (found : range_of st.ranges range ≡ Some r) (job : SplitJob) (was : split_of st.splits range ≡ Some job) (from : ActorId) (q : ReqNo) (changes : List Change) →
      Owed generation nodes target c y x s cell st at is range r found job was (transact_rule st.context r from q changes)
  pub gets : (range : ℕ) (r : RangeState) (found : range_of st.ranges range ≡ Some r) (job : SplitJob) (was : split_of st.splits range ≡ Some job) (from : ActorId) (q : ReqNo) (key : List ℕ) →
      Owed generation nodes target c y x s cell st at is range r found job was (get_rule st.context r from q key)
  pub answers : (range : ℕ) (r : RangeState) (found : range_of st.ranges range ≡ Some r) (job : SplitJob) (was : split_of st.splits range ≡ Some job) (p : Packet) → Contains c.stream_layer.post p → p.to ≡ Server s → (u : ReqNo) → answered_number p.body ≡ Some u →
      Owed generation nodes target c y x s cell st at is range r found job was (answer_rule st.context r u p.body)
  pub hears : (range : ℕ) (r : RangeState) (found : range_of st.ranges range ≡ Some r) (job : SplitJob) (was : split_of st.splits range ≡ Some job) (p : Packet) → Contains c.stream_layer.post p → p.to ≡ Server s → is_answerer p.from p.body ≡ true → (u : ReqNo) →
      answered_number p.body ≡ Some u → phase_awaits job.phase u ≡ true → OwedHearing generation nodes target c y x s cell st at is range r found job was p.body

-- and where it gives up
abbrev pub LeavingOwed : (generation : ℕ → ℕ) (nodes target : ℕ) {base : Bases generation} (c : Cluster) (y : ServerRun) (x : Standing generation nodes target base c y) (s : ℕ) (cell : ServerCell) (st : ServerState) (at : entry_at c.servers s ≡ Some cell) (is : cell.state ≡ Some st) → Type 0
LeavingOwed generation nodes target c y x s cell st at is =
    (range : ℕ) (r : RangeState) (found : range_of st.ranges range ≡ Some r) (job : SplitJob) (was : split_of st.splits range ≡ Some job) (next : RangeState) (there : (give_up_all st.context r).after ≡ Some next) →
    OwedLeaving generation nodes target c y x s cell st at is range r found job was next there
