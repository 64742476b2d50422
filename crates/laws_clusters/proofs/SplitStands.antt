-- A cluster stands on where a range that is being split takes a step, and its split goes on behind it, gives up behind it, or goes with it.
use Rattle.std.proofs.Common.{◌≡◌, ◌⊎◌, ℕ, ◌≤◌, true, false, List, [], ◌∷◌, Option, Some, None, refl, sym, ap, ◌∙◌, subst, inl, inr}
use Rattle.std.proofs.lemmas.Option.{same_Some}
use Rattle.wire.specs.declared.actor.ReqNo.{ReqNo}
use Rattle.wire.specs.declared.body.Body.{Body}
use Rattle.wire.specs.declared.body.Body.TheVariants as bodies
use Rattle.wire.specs.declared.body.SealBody.TheVariants as seals
use Rattle.wire.specs.declared.body.StreamBody.TheVariants as streams
use Rattle.wire.specs.declared.packet.Packet.{Packet}
use Rattle.client.specs.declared.job.Job.TheVariants as jobs
use Rattle.model_streams.specs.Maps.{entry_at}
use Rattle.model_streams.specs.StreamSystem.{StreamSystem}
use Rattle.model_partition.specs.declared.server_context.ServerContext.{ServerContext}
use Rattle.model_partition.specs.declared.split_job.SplitJob.{SplitJob}
use Rattle.model_partition.specs.declared.split_job.SplitPhase.{SplitPhase}
use Rattle.model_partition.specs.declared.split_job.SplitPhase.TheVariants as phases
use Rattle.model_partition.specs.declared.table_note.TableNote.{TableNote}
use Rattle.model_partition.specs.Cluster.{Cluster}
use Rattle.model_partition.specs.Range.{RangeState, RangeOutcome}
use Rattle.model_partition.specs.Server.{ServerState, range_of, set_range, split_of, set_split}
use Rattle.model_partition.specs.Servers.{ServerCell}
use Rattle.model_partition.specs.Splits.{SplitStep, side_range}
use Rattle.model_histories.specs.ServerRun.{ServerRun}
use Rattle.model_histories.specs.StreamActions.{StreamAction}
use Rattle.laws_loads.specs.RangeView.{RangeView}
use Rattle.laws_stream_machine.specs.Refinement.{IsThere}
use Rattle.laws_ranges.specs.Serves.{Side, after_turns, metadata_of}
use Rattle.laws_ranges.specs.SplitJobs.{waits_seal, waits_call, IsForSplit, IsBuildOf, IsUnkeyed, IsUnkeyedIf, AskedOfSplit, SplitSees}
use Rattle.laws_ranges.proofs.SplitsPaused.{KeepsKeys}
use Rattle.laws_servers.specs.Sending.{AllFromServers}
use Rattle.laws_server_runs.specs.RunInvariant.{view_at}
use Rattle.laws_clusters.proofs.Invariant.{HeldAt, SplitAt, IsMaking, m_side, l_side, IsFirm, KeysStand, Standing, Bases}
use Rattle.laws_clusters.proofs.KeptKeys.{keys_same}
use Rattle.laws_clusters.proofs.RowRules.{AsksIn, AllIn, RowsIf}
use Rattle.laws_clusters.proofs.RowSteps.{WasOut, IsNew}
use Rattle.laws_clusters.proofs.ServerRules.{AreLaid}
use Rattle.laws_clusters.proofs.StepShapes.{AreLeft, SplitsLeft, KeepsAsks, SealWaited, CallWaited, WaitsAfter, StepWaits}
use Rattle.laws_clusters.proofs.SplitLeaves.{IsKeyed, LeavesUnkeyed, same_out, SplitKeeps, SplitChecks, LeavesIn, Leaves}
use Rattle.laws_clusters.proofs.MapWords.{IsFounded}
use Rattle.laws_clusters.proofs.RangeStreams.{HasStreams}
use Rattle.laws_clusters.proofs.SplitPackets as one
use Rattle.laws_clusters.proofs.SplitRequests.{AllSent, sent_in, clients_send, in_used, BuildsNew, AllAskOfSplit, clients_of_split, sent_of_split}
use Rattle.laws_clusters.proofs.SplitRules.{beside_step}

-- ---- a range that goes tells its users alone

idle_range : RangeState → RangeState
idle_range r = record r { metadata = record r.metadata { job = jobs.Idle }; log = record r.log { job = jobs.Idle }; rows = record r.rows { job = jobs.Idle } }

no_seal : (w : StreamSystem) (range : ℕ) (r : RangeState) (job : SplitJob) (q : ReqNo) (body : Body) → AsksIn (idle_range r) body → IsForSplit w range (Some job) q body → ⊥
unfolding idle_range
no_seal w range r job q (bodies.Seal (seals.SealExtent e v)) (inl (inl a)) for = cc
no_seal w range r job q (bodies.Seal (seals.SealExtent e v)) (inl (inr a)) for = cc
no_seal w range r job q (bodies.Seal (seals.SealExtent e v)) (inr (inl (inl a))) for = cc
no_seal w range r job q (bodies.Seal (seals.SealExtent e v)) (inr (inl (inr a))) for = cc
no_seal w range r job q (bodies.Seal (seals.SealExtent e v)) (inr (inr (inl a))) for = cc
no_seal w range r job q (bodies.Seal (seals.SealExtent e v)) (inr (inr (inr a))) for = cc
no_seal w range r job q (bodies.Seal body) asks for = for
no_seal w range r job q body asks for = for

no_build : (r : RangeState) (job : SplitJob) (body : Body) → AsksIn r body → IsBuildOf (Some job) body → ⊥
no_build r job (bodies.Stream (streams.MultiModify list v)) (inl a) build = a
no_build r job (bodies.Stream (streams.MultiModify list v)) (inr (inl a)) build = a
no_build r job (bodies.Stream (streams.MultiModify list v)) (inr (inr a)) build = a
no_build r job (bodies.Stream body) asks build = build
no_build r job body asks build = build

module _ (generation : ℕ → ℕ) (range : ℕ) (w : StreamSystem) (i : ℕ) (job : SplitJob) (r : RangeState) where
  dropped_asked : (n k : Side) (ps : List Packet) → ((z : RangeState) → AllIn z ps) → AskedOfSplit generation range w i None (Some job) n k ps → AskedOfSplit generation range w i None None n k ps
  dropped_asked n k [] plain asked = tt
  dropped_asked n k (p ∷ ps) plain asked = (
    (
      asked.0.0,
      asked.0.1,
      λ q number one two. elim (asked.0.2 q number one two) [ inl rows ↦ inl rows | inr split ↦ absurd (no_seal w range r job q p.body (plain (idle_range r)).0 split) ],
      elim asked.0.3 [ inl none ↦ inl none | inr build ↦ absurd (no_build r job p.body (plain r).0 build) ],
    ),
    dropped_asked n k ps (λ z. (plain z).1) asked.1,
  )

  -- a range that goes takes its split with it
  pub dropped_sees : (v : RangeView) (m l : Side) (d : ServerContext) (count : ℕ) (ps : List Packet) (actions : List StreamAction) → ((z : RangeState) → AllIn z ps) →
      SplitSees generation range w i v m l d (record { range = None; job = Some job; count = count; packets = ps }) actions → SplitSees generation range w i v m l d (record { range = None; job = None; count = count; packets = ps }) actions
  dropped_sees v m l d count ps actions plain sees =
      let g = sees.step.goes in
      record {
        step = record {
          goes = record {
            metadata_turns = g.metadata_turns;
            log_turns = g.log_turns;
            metadata_allowed = g.metadata_allowed;
            log_allowed = g.log_allowed;
            none = g.none;
            metadata_sent = g.metadata_sent;
            log_sent = g.log_sent;
            metadata_keeps = g.metadata_keeps;
            log_keeps = g.log_keeps;
            rises = g.rises;
            metadata_adds = g.metadata_adds;
            log_adds = g.log_adds;
            sent_by = g.sent_by;
            then = tt;
            asked = tt;
          };
          asked = dropped_asked (record { stand = after_turns generation i m.stand g.metadata_turns; sent = g.metadata_sent }) (record { stand = after_turns generation i l.stand g.log_turns; sent = g.log_sent }) ps plain sees.step.asked;
        };
        seen = sees.seen;
      }

keyed_not : (phase : SplitPhase) → IsUnkeyed phase → IsKeyed phase → ⊥
keyed_not (phases.Keys side c) none keyed = none
keyed_not phase none keyed = keyed

module _ (generation : ℕ → ℕ) (nodes target : ℕ) {base : Bases generation} (c : Cluster) (y : ServerRun) (x : Standing generation nodes target base c y) (s : ℕ) (cell : ServerCell) (st : ServerState) (at : entry_at c.servers s ≡ Some cell) (is : cell.state ≡ Some st)
    (range : ℕ) (r : RangeState) (found : range_of st.ranges range ≡ Some r) (job : SplitJob) (was : split_of st.splits range ≡ Some job) where
  abbrev pub w : StreamSystem
  w = one.w generation nodes target c y x s cell st at is range r found (Some job) was

  abbrev pub i : ℕ
  i = one.i generation nodes target c y x s cell st at is range r found (Some job) was

  abbrev pub Does : SplitStep → List StreamAction → Type 0
  Does t actions = one.Does generation nodes target c y x s cell st at is range r found (Some job) was t actions

  abbrev pub Stands : SplitStep → List TableNote → List StreamAction → List (ℕ × RangeState) → List (ℕ × SplitJob) → Type 0
  Stands t notes actions ranges splits =
      Standing generation nodes target base (one.cluster_after generation nodes target c y x s cell st at is range r found (Some job) was t notes ranges splits)
      (one.run_after generation nodes target c y x s cell st at is range r found (Some job) was t notes actions ranges splits)

  abbrev pub IsShown : SplitStep → List TableNote → List StreamAction → List (ℕ × RangeState) → List (ℕ × SplitJob) → Type 0
  IsShown t notes actions ranges splits = AreLaid (one.run_after generation nodes target c y x s cell st at is range r found (Some job) was t notes actions ranges splits) notes

  -- ---- keys

  -- the two ranges of its split stand so, as the machines are before the step
  abbrev OwnKeys : SplitStep → Type 0
  OwnKeys t = one.OwnKeys generation nodes target c y x s cell st at is range r found (Some job) was t

  -- they stand before it
  pub keys_before : IsFirm generation base s range → KeysStand generation nodes target x.moves x.machines (y.history s) i r job job.phase
  keys_before firm =
      let held : HeldAt c.servers s range r = record { cell = cell; state = st; there = at; up = is; found = found } in
      let split : SplitAt c.servers s range job = record { cell = cell; state = st; there = at; up = is; found = was } in
      x.keys s range r job held split firm i (one.held generation nodes target c y x s cell st at is range r found (Some job) was).is

  -- of both as they were
  keys_stay : (next : RangeState) → r ≡ next → (later : SplitJob) → job ≡ later → IsFirm generation base s range → KeysStand generation nodes target x.moves x.machines (y.history s) i next later later.phase
  keys_stay next same later stays firm =
      subst (λ (z : SplitJob). KeysStand generation nodes target x.moves x.machines (y.history s) i next z z.phase) stays
      (subst (λ (z : RangeState). KeysStand generation nodes target x.moves x.machines (y.history s) i z job job.phase) same (keys_before firm))

  -- ---- a rule of the range, whose split stays

  seal_same : (later : SplitJob) → Some job ≡ Some later → (q : ReqNo) → waits_seal later.phase q ≡ true → SealWaited st range q
  seal_same later e q waits = let same : job ≡ later = cc in (job, was, subst (λ (z : SplitJob). waits_seal z.phase q ≡ true) (sym same) waits)

  call_same : (later : SplitJob) → Some job ≡ Some later → (q : ReqNo) → waits_call later.phase q ≡ true → CallWaited st range later q
  call_same later e q waits =
      let same : job ≡ later = cc in
      let keeps : KeepsAsks job job = record { range = refl; generation = refl; key = refl; streams = refl } in
      (job, was, subst (λ (z : SplitJob). waits_call z.phase q ≡ true) (sym same) waits, subst (KeepsAsks job) same keeps)

  rule_waits : (o : RangeOutcome) (actions : List StreamAction) → Does (beside_step job o) actions → RowsIf st.context r.rows o.count o.packets o.after → StepWaits st range (beside_step job o) o.packets
  rule_waits o actions acted left next is_next =
      let have : RowsIf st.context r.rows o.count o.packets (Some next) = subst (λ a. RowsIf st.context r.rows o.count o.packets a) is_next left in
      record {
        rows = one.rows_from generation nodes target c y x s cell st at is range r found (Some job) was o next have.0 (one.stream_kept generation nodes target c y x s cell st at is range r found (Some job) was (beside_step job o) actions acted next is_next);
        seal = λ later e q waits. inl (seal_same later e q waits);
        call = λ later e q waits. inl (call_same later e q waits);
        steady = inr (λ later e q. (seal_same later e q, call_same later e q));
        sent = clients_send next (Some job) o.packets have.1;
      }

  rule_keys : (o : RangeOutcome) (next : RangeState) → o.after ≡ Some next → (IsMaking job.phase → KeepsKeys r next) → OwnKeys (beside_step job o)
  rule_keys o next is_next kept other is_other later is_later firm =
      let same : next ≡ other = same_Some next other (sym is_next ∙ is_other) in
      let stays : job ≡ later = same_Some job later is_later in
      subst (λ (z : SplitJob). KeysStand generation nodes target x.moves x.machines (y.history s) i other z z.phase) stays
      (subst (λ (z : RangeState). KeysStand generation nodes target x.moves x.machines (y.history s) i z job job.phase) same (keys_same generation nodes target x.moves x.machines (y.history s) i r next job job.phase kept (keys_before firm)))

  -- it is left there, and what its keys are made of as it was
  pub rule_stands : (o : RangeOutcome) (notes : List TableNote) (actions : List StreamAction) → Does (beside_step job o) actions → AllFromServers o.packets → RowsIf st.context r.rows o.count o.packets o.after → (next : RangeState) → o.after ≡ Some next →
      (IsMaking job.phase → KeepsKeys r next) → IsShown (beside_step job o) notes actions (set_range st.ranges range o.after) st.splits → Stands (beside_step job o) notes actions (set_range st.ranges range o.after) st.splits
  rule_stands o notes actions acted senders left next is_next kept shown =
      one.step_stands generation nodes target c y x s cell st at is range r found (Some job) was (beside_step job o) notes actions acted senders (rule_waits o actions acted left) (λ gone. absurd (let z : Some next ≡ None = sym is_next ∙ gone in cc))
      (λ gone. absurd (let z : Some next ≡ None = sym is_next ∙ gone in cc)) (clients_of_split c.stream_layer next o.packets asks) (rule_keys o next is_next kept) (set_range st.ranges range o.after) (one.shape_of generation nodes target c y x s cell st at is range r found (Some job) was o.after) st.splits
      (one.same_splits generation nodes target c y x s cell st at is range r found (Some job) was) shown
    where
      asks : AllIn next o.packets
      asks = (subst (λ a. RowsIf st.context r.rows o.count o.packets a) is_next left).1

  -- or it goes, and its split with it
  abbrev pub gone_step : RangeOutcome → SplitStep
  gone_step o = record { range = None; job = None; count = o.count; packets = o.packets }

  pub drop_stands : (o : RangeOutcome) (notes : List TableNote) (actions : List StreamAction) → Does (beside_step job o) actions → AllFromServers o.packets → RowsIf st.context r.rows o.count o.packets o.after → o.after ≡ None →
      IsShown (gone_step o) notes actions (set_range st.ranges range None) (set_split st.splits range None) → Stands (gone_step o) notes actions (set_range st.ranges range None) (set_split st.splits range None)
  drop_stands o notes actions acted senders left gone shown =
      one.step_stands generation nodes target c y x s cell st at is range r found (Some job) was (gone_step o) notes actions went senders (λ next is_next. absurd (let z : None ≡ Some next = is_next in cc)) (λ e. refl)
      (λ e p there q number. in_used r p.body q (sent_in r None o.packets (clients_send r None o.packets (plain r)) p there) number) (clients_of_split c.stream_layer r o.packets (plain r))
      (λ next is_next later is_later firm. absurd (let z : None ≡ Some later = is_later in cc)) (set_range st.ranges range None) (one.shape_of generation nodes target c y x s cell st at is range r found (Some job) was None) (set_split st.splits range None) (one.splits_of generation nodes target c y x s cell st at is range r found (Some job) was None) shown
    where
      plain : (n : RangeState) → AllIn n o.packets
      plain = subst (λ a. RowsIf st.context r.rows o.count o.packets a) gone left

      there : Does (record { range = None; job = Some job; count = o.count; packets = o.packets }) actions
      there = subst (λ a. Does (record { range = a; job = Some job; count = o.count; packets = o.packets }) actions) gone acted

      went : Does (gone_step o) actions
      went = record {
        rule = dropped_sees generation range (one.w generation nodes target c y x s cell st at is range r found (Some job) was) i job r (view_at range y s) (m_side generation (x.machines range) i) (l_side generation (x.machines range) i) st.context o.count o.packets actions plain there.rule;
        read = tt;
        on_either = there.on_either;
        observed = there.observed;
      }

  -- ---- a step of its split

  keeps_waits : (t : SplitStep) (next : RangeState) (later : SplitJob) → t.job ≡ Some later → SplitKeeps st.context r job next later t.count t.packets → WaitsAfter st range t t.packets next
  keeps_waits t next later is_later k = record {
    rows = λ q waits. inl (r, found, k.rows);
    seal = λ other e q waits. seal_from other (same other e) q waits;
    call = λ other e q waits. call_from other (same other e) q waits;
    steady = inl (λ q waits. (r, found, k.rows));
    sent = subst (λ z. AllSent next z t.packets) (sym is_later) k.sent;
  }
    where
      same : (other : SplitJob) → t.job ≡ Some other → later ≡ other
      same other e = let both : Some later ≡ Some other = sym is_later ∙ e in cc

      seal_from : (other : SplitJob) → later ≡ other → (q : ReqNo) → waits_seal other.phase q ≡ true → SealWaited st range q ⊎ IsNew st.context t.count q
      seal_from other e q waits = elim (k.seal q (subst (λ (z : SplitJob). waits_seal z.phase q ≡ true) (sym e) waits)) [ inl old ↦ inl (job, was, old) | inr fresh ↦ inr fresh ]

      call_from : (other : SplitJob) → later ≡ other → (q : ReqNo) → waits_call other.phase q ≡ true → CallWaited st range other q ⊎ IsNew st.context t.count q
      call_from other e q waits = elim (k.call q (subst (λ (z : SplitJob). waits_call z.phase q ≡ true) (sym e) waits)) [ inl old ↦ inl (job, was, old.0, subst (KeepsAsks job) e old.1) | inr fresh ↦ inr fresh ]

  checks_waits : (t : SplitStep) (actions : List StreamAction) → Does t actions → (next : RangeState) → t.range ≡ Some next → (later : SplitJob) → t.job ≡ Some later → SplitChecks st.context r job next later t.count t.packets → WaitsAfter st range t t.packets next
  checks_waits t actions acted next is_next later is_later k = record {
    rows = one.rows_from generation nodes target c y x s cell st at is range r found (Some job) was (record { after = t.range; count = t.count; packets = t.packets; notes = [] }) next k.rows
        (one.stream_kept generation nodes target c y x s cell st at is range r found (Some job) was t actions acted next is_next);
    seal = λ other e q waits. absurd (no_seal_waits other e q waits);
    call = λ other e q waits. absurd (no_call_waits other e q waits);
    steady = inr (λ other e q. (λ waits. absurd (no_seal_waits other e q waits), λ waits. absurd (no_call_waits other e q waits)));
    sent = subst (λ z. AllSent next z t.packets) (sym is_later) k.sent;
  }
    where
      phase_is : (other : SplitJob) → t.job ≡ Some other → other.phase ≡ phases.Checkpoint
      phase_is other e = let both : Some later ≡ Some other = sym is_later ∙ e in let same : later ≡ other = cc in ap (λ (z : SplitJob). z.phase) (sym same) ∙ k.waits

      no_seal_waits : (other : SplitJob) → t.job ≡ Some other → (q : ReqNo) → waits_seal other.phase q ≡ true → ⊥
      no_seal_waits other e q waits = let z : false ≡ true = ap (λ p. waits_seal p q) (sym (phase_is other e)) ∙ waits in cc

      no_call_waits : (other : SplitJob) → t.job ≡ Some other → (q : ReqNo) → waits_call other.phase q ≡ true → ⊥
      no_call_waits other e q waits = let z : false ≡ true = ap (λ p. waits_call p q) (sym (phase_is other e)) ∙ waits in cc

  -- what a step of a split that appends no keys waits for
  split_waits : (t : SplitStep) (actions : List StreamAction) → Does t actions → Leaves st.context r job t → LeavesUnkeyed st.context r job t → StepWaits st range t t.packets
  split_waits t actions acted leaves (inl same) next is_next =
      keeps_waits t next job (ap (λ (z : SplitStep). z.job) same)
      (record {
        rows = subst (λ (z : RangeState). WasOut r.rows z.rows) next_is (same_out r.rows);
        seal = λ q waits. inl waits;
        call = λ q waits. inl (waits, record { range = refl; generation = refl; key = refl; streams = refl });
        sent = subst (λ (ps : List Packet). AllSent next (Some job) ps) (sym (ap (λ (z : SplitStep). z.packets) same)) tt;
      })
    where
      next_is : r ≡ next
      next_is = let both : Some r ≡ Some next = sym (ap (λ (z : SplitStep). z.range) same) ∙ is_next in cc
  split_waits t actions acted leaves (inr unkeyed) next is_next = by_job t.job refl (subst (λ a. LeavesIn st.context r job a t.job t.count t.packets) is_next leaves)
    where
      by_job : (j : Option SplitJob) → t.job ≡ j → LeavesIn st.context r job (Some next) t.job t.count t.packets → WaitsAfter st range t t.packets next
      by_job None e k = absurd (subst (λ z. LeavesIn st.context r job (Some next) z t.count t.packets) e k)
      by_job (Some later) e k = elim (subst (λ z. LeavesIn st.context r job (Some next) z t.count t.packets) e k) [
        | inl keeps ↦ keeps_waits t next later e keeps
        | inr other ↦ elim other [
          | inl checks ↦ checks_waits t actions acted next is_next later e checks
          | inr keyed ↦ absurd (keyed_not later.phase (subst (λ z. IsUnkeyedIf z) e unkeyed) keyed)
        ]
      ]

  pub split_ends : (t : SplitStep) → Leaves st.context r job t → t.range ≡ None → t.job ≡ None
  split_ends t leaves gone = by_job t.job refl (subst (λ a. LeavesIn st.context r job a t.job t.count t.packets) gone leaves)
    where
      by_job : (j : Option SplitJob) → t.job ≡ j → LeavesIn st.context r job None t.job t.count t.packets → t.job ≡ None
      by_job None e k = e
      by_job (Some later) e k = absurd (subst (λ z. LeavesIn st.context r job None z t.count t.packets) e k)

  -- no keys are appended: both are as they were, or the streams are asked for while those of neither range are there, or they are not asked for
  split_keys : (t : SplitStep) → LeavesUnkeyed st.context r job t → BuildsNew c.stream_layer r job t → OwnKeys t
  split_keys t (inl same) builds next is_next later is_later firm =
      keys_stay next (same_Some r next (sym (ap (λ (z : SplitStep). z.range) same) ∙ is_next)) later (same_Some job later (sym (ap (λ (z : SplitStep). z.job) same) ∙ is_later)) firm
  split_keys t (inr unkeyed) builds next is_next later is_later firm = go later.phase refl (subst (λ z. IsUnkeyedIf z) is_later unkeyed)
    where
      go : (phase : SplitPhase) → later.phase ≡ phase → IsUnkeyed later.phase → KeysStand generation nodes target x.moves x.machines (y.history s) i next later later.phase
      go (phases.Keys side k) e none = absurd (subst IsUnkeyed e none)
      go (phases.Build q) e none = elim (builds.unbuilt later is_later q e) [
        | inl same ↦ keys_stay next (same_Some r next (sym same.0 ∙ is_next)) later same.1 firm
        | inr absent ↦
            subst (λ p. KeysStand generation nodes target x.moves x.machines (y.history s) i next later p) (sym e)
            (λ side there. absurd (absent side (subst (λ (z : StreamSystem). IsThere z (metadata_of (side_range later side))) x.leads there)))
      ]
      go (phases.Begin q) e none = subst (λ p. KeysStand generation nodes target x.moves x.machines (y.history s) i next later p) (sym e) tt
      go phases.Checkpoint e none = subst (λ p. KeysStand generation nodes target x.moves x.machines (y.history s) i next later p) (sym e) tt
      go phases.Queue e none = subst (λ p. KeysStand generation nodes target x.moves x.machines (y.history s) i next later p) (sym e) tt
      go phases.Record e none = subst (λ p. KeysStand generation nodes target x.moves x.machines (y.history s) i next later p) (sym e) tt
      go (phases.Seal kind q) e none = subst (λ p. KeysStand generation nodes target x.moves x.machines (y.history s) i next later p) (sym e) tt
      go (phases.Complete q) e none = subst (λ p. KeysStand generation nodes target x.moves x.machines (y.history s) i next later p) (sym e) tt

  -- the split goes on
  pub split_stands : (t : SplitStep) (notes : List TableNote) (actions : List StreamAction) → Does t actions → AllFromServers t.packets → Leaves st.context r job t → LeavesUnkeyed st.context r job t → BuildsNew c.stream_layer r job t →
      (ranges : List (ℕ × RangeState)) → AreLeft st.ranges ranges range t.range → (splits : List (ℕ × SplitJob)) → SplitsLeft st.splits splits range t.job → IsShown t notes actions ranges splits → Stands t notes actions ranges splits
  split_stands t notes actions acted senders leaves keys builds ranges shape splits split_shape shown =
      one.step_stands generation nodes target c y x s cell st at is range r found (Some job) was t notes actions acted senders (split_waits t actions acted leaves keys) (split_ends t leaves)
      (λ gone p there q number. in_used r p.body q (sent_in r None t.packets (clients_send r None t.packets (plain gone r)) p there) number) (of_split t.range refl) (split_keys t keys builds) ranges shape splits split_shape shown
    where
      plain : t.range ≡ None → (n : RangeState) → AllIn n t.packets
      plain gone = subst (λ z. LeavesIn st.context r job None z t.count t.packets) (split_ends t leaves gone) (subst (λ a. LeavesIn st.context r job a t.job t.count t.packets) gone leaves)

      of_split : (a : Option RangeState) → t.range ≡ a → AllAskOfSplit c.stream_layer t.packets
      of_split None gone = clients_of_split c.stream_layer r t.packets (plain gone r)
      of_split (Some next) there =
          sent_of_split c.stream_layer next t.job
          (λ later e q phase.
          (let founded : IsFounded c.stream_layer range = one.founded generation nodes target c y x s cell st at is range r found (Some job) was in
          let same : later.range ≡ range = one.range_of_job generation nodes target c y x s cell st at is range r found (Some job) was t actions acted later e next there in
          record { job = later; is = refl; counted = subst (λ n. 1 ≤ n) (sym same) founded.0; sides = builds.counted later e q phase; streams = subst (HasStreams c.stream_layer) (sym same) founded.1 }))
          t.packets (split_waits t actions acted leaves keys next there).sent
