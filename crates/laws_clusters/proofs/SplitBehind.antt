-- A cluster stands on where a range that is being split takes a step and its split goes on behind it.
use Rattle.std.proofs.Common.{◌≡◌, ℕ, ◌-◌, List, [], ◌++◌, Some, None, slice_set, refl, sym, ap, ◌∙◌, subst}
use Rattle.model_streams.specs.Maps.{entry_at}
use Rattle.model_streams.specs.StreamSystem.{StreamSystem}
use Rattle.client.specs.Client.{ClientState}
use Rattle.model_partition.specs.declared.split_job.Side.{Side}
use Rattle.model_partition.specs.declared.split_job.SplitJob.{SplitJob}
use Rattle.model_partition.specs.declared.split_job.SplitPhase.TheVariants as phases
use Rattle.model_partition.specs.Cluster.{Cluster}
use Rattle.model_partition.specs.Range.{RangeState, RangeOutcome}
use Rattle.model_partition.specs.Server.{ServerState, range_of, set_range, split_of, set_split}
use Rattle.model_partition.specs.Servers.{ServerCell, with_told}
use Rattle.model_partition.specs.Splits.{SplitStep, open_last, follows, keys_again, gives_up}
use Rattle.model_histories.specs.ServerRun.{ServerRun, after_actions, with_outcome}
use Rattle.model_histories.specs.StreamActions.{StreamAction, follow_actions}
use Rattle.laws_loads.proofs.Entries.{entry_set, set_twice}
use Rattle.laws_ranges.specs.SplitJobs.{LeavesKeys, SplitSees}
use Rattle.laws_ranges.proofs.SplitReplies.{follows_split, gives_up_split}
use Rattle.laws_ranges.proofs.SplitsKept.{both_under}
use Rattle.laws_ranges.proofs.SplitsPaused.{KeepsKeys}
use Rattle.laws_servers.specs.Sending.{AllFromServers}
use Rattle.laws_servers.proofs.SplitSteps.{follows_sends}
use Rattle.laws_server_runs.specs.RunInvariant.{view_at}
use Rattle.laws_clusters.proofs.SplitRequests.{BuildsNew}
use Rattle.laws_clusters.proofs.Invariant.{IsMaking, AreAside, m_side, l_side, Standing, Bases}
use Rattle.laws_clusters.proofs.KeptKeys.{aside_stays}
use Rattle.laws_clusters.proofs.RangeRules.{both}
use Rattle.laws_clusters.proofs.RowRules.{RowsIf}
use Rattle.laws_clusters.proofs.ServerRules.{AreLaid, plain_laid}
use Rattle.laws_clusters.proofs.StepShapes.{AreLeft}
use Rattle.laws_clusters.proofs.SplitLeaves.{Leaves, LeavesUnkeyed, leaves_none, follows_leaves, follows_keys}
use Rattle.laws_clusters.proofs.MapWords.{IsFounded}
use Rattle.laws_clusters.proofs.SplitPackets as one
use Rattle.laws_clusters.proofs.SplitPackets.{steps_joined, told_joined}
use Rattle.laws_clusters.proofs.SplitRules.{beside_step, split_acted, follow_acted}
use Rattle.laws_clusters.proofs.SplitStands as split

module _ (generation : ℕ → ℕ) (nodes target : ℕ) {base : Bases generation} (c : Cluster) (y : ServerRun) (x : Standing generation nodes target base c y) (s : ℕ) (cell : ServerCell) (st : ServerState) (at : entry_at c.servers s ≡ Some cell) (is : cell.state ≡ Some st)
    (range : ℕ) (r : RangeState) (found : range_of st.ranges range ≡ Some r) (job : SplitJob) (was : split_of st.splits range ≡ Some job) where
  module _ (o : RangeOutcome) (actions : List StreamAction) (acted : split.Does generation nodes target c y x s cell st at is range r found job was (beside_step job o) actions) (senders : AllFromServers o.packets)
      (left : RowsIf st.context r.rows o.count o.packets o.after) (next : RangeState) (is_next : o.after ≡ Some next) (kept : IsMaking job.phase → KeepsKeys r next) where
    abbrev ranges : List (ℕ × RangeState)
    ranges = set_range st.ranges range o.after

    abbrev pub c1 : Cluster
    c1 = one.cluster_after generation nodes target c y x s cell st at is range r found (Some job) was (beside_step job o) [] ranges st.splits

    abbrev pub y1 : ServerRun
    y1 = one.run_after generation nodes target c y x s cell st at is range r found (Some job) was (beside_step job o) [] actions ranges st.splits

    abbrev pub st1 : ServerState
    st1 = one.state_after generation nodes target c y x s cell st at is range r found (Some job) was (beside_step job o) ranges st.splits

    abbrev pub cell1 : ServerCell
    cell1 = one.cell_after generation nodes target c y x s cell st at is range r found (Some job) was (beside_step job o) ranges st.splits

    -- its server holds no more ranges, and has the splits that it had
    aside : AreAside y1.servers
    aside =
        aside_stays c.servers s cell st at is range r found (Some job) was o.after st1 (one.shape_of generation nodes target c y x s cell st at is range r found (Some job) was o.after)
        (one.same_splits generation nodes target c y x s cell st at is range r found (Some job) was) x.aside

    pub x1 : Standing generation nodes target base c1 y1
    x1 = split.rule_stands generation nodes target c y x s cell st at is range r found job was o [] actions acted senders left next is_next kept (plain_laid y1 [] tt aside)

    pub at1 : entry_at c1.servers s ≡ Some cell1
    at1 = entry_set c.servers s cell cell1 at

    pub found1 : range_of st1.ranges range ≡ Some next
    found1 = (one.shape_of generation nodes target c y x s cell st at is range r found (Some job) was o.after).there next is_next

    -- the server after a step of the split
    abbrev pub after_split : SplitStep → ServerState
    after_split t = record st { context = record st.context { count = t.count }; ranges = set_range st.ranges range t.range; splits = set_split st.splits range t.job }

    -- what is so of a step of the split behind this
    module _ (t : SplitStep) (later : List StreamAction) (then : split.Does generation nodes target c1 y1 x1 s cell1 st1 at1 refl range next found1 job was t later) (sends : AllFromServers t.packets)
        (leaves : Leaves st1.context next job t) (keys : LeavesUnkeyed st1.context next job t) (builds_later : BuildsNew c.stream_layer next job t) where
      abbrev pub state : ServerState
      state = record st { context = record st.context { count = t.count }; ranges = set_range st.ranges range t.range; splits = set_split st.splits range t.job }

      abbrev last_cell : ServerCell
      last_cell = record cell { state = Some state }

      abbrev last_servers : List ServerCell
      last_servers = slice_set c.servers (s - 1) last_cell

      abbrev pub last_cluster : Cluster
      last_cluster = record c { stream_layer = with_told c.stream_layer (o.packets ++ t.packets) o.notes; servers = last_servers }

      abbrev pub last_run : ServerRun
      last_run = with_outcome (after_actions s range r.load.generation y (later ++ actions)) (record { servers = last_servers; packets = o.packets ++ t.packets; notes = o.notes })

      -- ---- both steps are one

      abbrev two_servers : List ServerCell
      two_servers = slice_set c1.servers (s - 1) last_cell

      servers_are : two_servers ≡ last_servers
      servers_are = set_twice c.servers (s - 1) cell1 last_cell

      abbrev run_so : ℕ → ℕ → List ServerCell → ServerRun
      run_so first second servers =
          with_outcome (after_actions s range second (with_outcome (after_actions s range first y actions) (record { servers = c1.servers; packets = o.packets; notes = [] })) later) (record { servers = servers; packets = t.packets; notes = o.notes })

      abbrev i1 : ℕ
      i1 = one.i generation nodes target c1 y1 x1 s cell1 st1 at1 refl range next found1 (Some job) was

      abbrev i0 : ℕ
      i0 = one.i generation nodes target c y x s cell st at is range r found (Some job) was

      first_generation : generation i0 ≡ r.load.generation
      first_generation =
          sym (both_under generation range (one.w generation nodes target c y x s cell st at is range r found (Some job) was) i0 (m_side generation (x.machines range) i0) (l_side generation (x.machines range) i0) r (Some job)
          (one.holds generation nodes target c y x s cell st at is range r found (Some job) was).follows)

      second_generation : generation i1 ≡ r.load.generation
      second_generation =
          sym (both_under generation range (one.w generation nodes target c1 y1 x1 s cell1 st1 at1 refl range next found1 (Some job) was) i1 (m_side generation (x1.machines range) i1) (l_side generation (x1.machines range) i1) next (Some job)
          (one.holds generation nodes target c1 y1 x1 s cell1 st1 at1 refl range next found1 (Some job) was).follows)
          ∙ one.generation_kept generation nodes target c y x s cell st at is range r found (Some job) was (beside_step job o) actions acted next is_next

      run_is : run_so (generation i0) (generation i1) two_servers ≡ last_run
      run_is =
          ap (λ g. run_so (generation i0) g two_servers) second_generation
          ∙ ap (λ g. run_so g r.load.generation two_servers) first_generation
          ∙ ap (run_so r.load.generation r.load.generation) servers_are
          ∙ steps_joined s range r.load.generation y later actions c1.servers last_servers o.packets t.packets (o.packets ++ t.packets) o.notes

      abbrev cluster_so : StreamSystem → List ServerCell → Cluster
      cluster_so layer servers = record c { stream_layer = layer; servers = servers }

      cluster_is : cluster_so (with_told (with_told c.stream_layer o.packets []) t.packets o.notes) two_servers ≡ last_cluster
      cluster_is =
          ap (λ layer. cluster_so layer two_servers) (told_joined c.stream_layer o.packets t.packets o.notes)
          ∙ ap (cluster_so (with_told c.stream_layer (o.packets ++ t.packets) o.notes)) servers_are

      shape : AreLeft st1.ranges (set_range st.ranges range t.range) range t.range
      shape =
          let a = one.shape_of generation nodes target c y x s cell st at is range r found (Some job) was t.range in
          let b = one.shape_of generation nodes target c y x s cell st at is range r found (Some job) was o.after in
          record { ascending = a.ascending; here = a.here; there = a.there; others = λ j apart. a.others j apart ∙ sym (b.others j apart) }

      pub behind_stands : AreLaid last_run o.notes → Standing generation nodes target base last_cluster last_run
      behind_stands laid =
          subst (λ z. Standing generation nodes target base z last_run) cluster_is
          (subst (λ z. Standing generation nodes target base (cluster_so (with_told (with_told c.stream_layer o.packets []) t.packets o.notes) two_servers) z) run_is
          (split.split_stands generation nodes target c1 y1 x1 s cell1 st1 at1 refl range next found1 job was t o.notes later then sends leaves keys
          (record { counted = builds_later.counted; unbuilt = builds_later.unbuilt }) (set_range st.ranges range t.range) shape (set_split st.splits range t.job)
          (one.splits_of generation nodes target c y x s cell st at is range r found (Some job) was t.job) (subst (λ z. AreLaid z o.notes) (sym run_is) laid)))

    -- ---- what follows it

    module _ (blob : open_last next.blob_data.extents ≡ None) where
      abbrev i2 : ℕ
      i2 = one.i generation nodes target c1 y1 x1 s cell1 st1 at1 refl range next found1 (Some job) was

      abbrev founded : IsFounded c1.stream_layer range
      founded = one.founded generation nodes target c1 y1 x1 s cell1 st1 at1 refl range next found1 (Some job) was

      pub followed : split.Does generation nodes target c1 y1 x1 s cell1 st1 at1 refl range next found1 job was (follows st1.context next job) (follow_actions st1.context next job)
      followed =
          follow_acted generation nodes target c1 y1 x1 range founded i2 st1.context (one.sent_by generation nodes target c1 y1 x1 s cell1 st1 at1 refl range next found1 (Some job) was) (view_at range y1 s)
          (one.seen_here generation nodes target c1 y1 x1 s cell1 st1 at1 refl range next found1 (Some job) was) next job (one.holds generation nodes target c1 y1 x1 s cell1 st1 at1 refl range next found1 (Some job) was).follows
          (one.past_rows generation nodes target c1 y1 x1 s cell1 st1 at1 refl range next found1 (Some job) was)
          (follows_split generation range (one.w generation nodes target c1 y1 x1 s cell1 st1 at1 refl range next found1 (Some job) was) i2 (both generation nodes target c1 y1 x1 range founded)
          (m_side generation (x1.machines range) i2) (l_side generation (x1.machines range) i2) st1.context (one.sent_by generation nodes target c1 y1 x1 s cell1 st1 at1 refl range next found1 (Some job) was) (view_at range y1 s) next job
          (one.holds generation nodes target c1 y1 x1 s cell1 st1 at1 refl range next found1 (Some job) was).follows (one.past_rows generation nodes target c1 y1 x1 s cell1 st1 at1 refl range next found1 (Some job) was) blob)
          (leaves_none st1.context next job (follows st1.context next job) (follows_leaves st1.context next job))

      -- a rule of the range, and what its split then does
      pub follow_stands : (builds_later : BuildsNew c.stream_layer next job (follows st1.context next job)) →
          AreLaid (last_run (follows st1.context next job) (follow_actions st1.context next job) followed (follows_sends st1.context next job) (follows_leaves st1.context next job) (follows_keys st1.context next job) builds_later) o.notes →
          Standing generation nodes target base (last_cluster (follows st1.context next job) (follow_actions st1.context next job) followed (follows_sends st1.context next job) (follows_leaves st1.context next job) (follows_keys st1.context next job) builds_later)
          (last_run (follows st1.context next job) (follow_actions st1.context next job) followed (follows_sends st1.context next job) (follows_leaves st1.context next job) (follows_keys st1.context next job) builds_later)
      follow_stands builds_later =
          behind_stands (follows st1.context next job) (follow_actions st1.context next job) followed (follows_sends st1.context next job) (follows_leaves st1.context next job) (follows_keys st1.context next job) builds_later

    -- ---- it gives up behind it

    abbrev i3 : ℕ
    i3 = one.i generation nodes target c1 y1 x1 s cell1 st1 at1 refl range next found1 (Some job) was

    -- what is so of a step of the split that adds nothing to the streams of the range
    abbrev pub GoesOn : SplitStep → Type 0
    GoesOn t =
        AllFromServers t.packets → Leaves st1.context next job t → BuildsNew c.stream_layer next job t →
        AreLaid (with_outcome (after_actions s range r.load.generation y actions) (record { servers = slice_set c.servers (s - 1) (record cell { state = Some (after_split t) }); packets = o.packets ++ t.packets; notes = o.notes })) o.notes →
        Standing generation nodes target base (record c { stream_layer = with_told c.stream_layer (o.packets ++ t.packets) o.notes; servers = slice_set c.servers (s - 1) (record cell { state = Some (after_split t) }) })
        (with_outcome (after_actions s range r.load.generation y actions) (record { servers = slice_set c.servers (s - 1) (record cell { state = Some (after_split t) }); packets = o.packets ++ t.packets; notes = o.notes }))

    goes_on : (t : SplitStep) → SplitSees generation range (one.w generation nodes target c1 y1 x1 s cell1 st1 at1 refl range next found1 (Some job) was) i3 (view_at range y1 s) (m_side generation (x1.machines range) i3) (l_side generation (x1.machines range) i3) st1.context t [] →
        LeavesKeys st1.context next job t → GoesOn t
    goes_on t sees keys sends leaves builds laid =
        behind_stands t []
        (split_acted generation nodes target c1 y1 x1 range (one.founded generation nodes target c1 y1 x1 s cell1 st1 at1 refl range next found1 (Some job) was) i3 st1.context
        (one.sent_by generation nodes target c1 y1 x1 s cell1 st1 at1 refl range next found1 (Some job) was) (view_at range y1 s) (one.seen_here generation nodes target c1 y1 x1 s cell1 st1 at1 refl range next found1 (Some job) was) next job
        (one.holds generation nodes target c1 y1 x1 s cell1 st1 at1 refl range next found1 (Some job) was).follows (one.past_rows generation nodes target c1 y1 x1 s cell1 st1 at1 refl range next found1 (Some job) was) t sees
        (leaves_none st1.context next job t leaves)) sends leaves keys.keys builds laid

    -- the split gives up; where keys are being appended this is owed
    pub leave_stands : ((side : Side) (k : ClientState) → job.phase ≡ phases.Keys side k → GoesOn (keys_again st1.context next job side k)) → GoesOn (gives_up st1.context next job)
    leave_stands keys =
        gives_up_split generation range (one.w generation nodes target c1 y1 x1 s cell1 st1 at1 refl range next found1 (Some job) was) i3 (both generation nodes target c1 y1 x1 range (one.founded generation nodes target c1 y1 x1 s cell1 st1 at1 refl range next found1 (Some job) was))
        (m_side generation (x1.machines range) i3) (l_side generation (x1.machines range) i3) st1.context (one.sent_by generation nodes target c1 y1 x1 s cell1 st1 at1 refl range next found1 (Some job) was) (view_at range y1 s) next job
        (one.holds generation nodes target c1 y1 x1 s cell1 st1 at1 refl range next found1 (Some job) was).follows (one.past_rows generation nodes target c1 y1 x1 s cell1 st1 at1 refl range next found1 (Some job) was) GoesOn goes_on keys
