-- A cluster stands on where the split of a range at a server goes on in the metadata of the two ranges that it makes.
use Rattle.std.proofs.Common.{◌≡◌, ℕ, ◌-◌, ◌≤◌, List, [], ◌++◌, Option, Some, None, slice_set, refl, sym, ap, ◌∙◌, subst, inl, inr, arith, append-nil}
use Rattle.wire.specs.declared.packet.Packet.{Packet}
use Rattle.model_streams.specs.Maps.{entry_at}
use Rattle.model_streams.specs.StreamSystem.{StreamSystem}
use Rattle.model_partition.specs.declared.split_job.Side.TheVariants.{Low, High}
use Rattle.model_partition.specs.declared.split_job.SplitJob.{SplitJob}
use Rattle.model_partition.specs.declared.split_job.SplitPhase.TheVariants as phases
use Rattle.model_partition.specs.Cluster.{Cluster}
use Rattle.model_partition.specs.Range.{RangeState, request}
use Rattle.model_partition.specs.Server.{ServerState, range_of, split_of, set_split}
use Rattle.model_partition.specs.Servers.{ServerCell, with_told}
use Rattle.model_partition.specs.Splits.{SplitStep, with_phase}
use Rattle.model_histories.specs.ServerRun.{ServerRun, after_actions, after_sides, with_outcome}
use Rattle.model_histories.specs.StreamActions.{StreamAction, SideAction}
use Rattle.laws_loads.proofs.Entries.{set_twice}
use Rattle.laws_ranges.specs.Serves.{Side, after_turns, metadata_of, sent_with}
use Rattle.laws_ranges.specs.SplitJobs.{FollowsSplit, FollowsBothIf}
use Rattle.laws_ranges.specs.SplitSides.{tagged, SaysKeys, SidesStand, SidesStandIf, ArePlain, AreOwn, IsUnmadeIf, AskedOfSides, OfNone, OfLow, OfHigh, SidesGo}
use Rattle.laws_servers.specs.Sending.{AllFromServers}
use Rattle.laws_clusters.proofs.Invariant.{IsMaking, AreAside, SideIsThere, Machines, here, m_side, l_side, Standing, Bases}
use Rattle.laws_clusters.proofs.KeyActions.{AreOfKeys, SidesAreOfKeys, untagged, later_sides, earlier_sides}
use Rattle.laws_clusters.proofs.KeysMoves.{MetadataMoves}
use Rattle.laws_clusters.proofs.KeysSteps as three
use Rattle.laws_clusters.proofs.MidstOfSteps.{in_midst, three_done}
use Rattle.laws_clusters.proofs.OtherEvents.{told_nothing}
use Rattle.laws_clusters.proofs.ServerRules.{AreLaid}
use Rattle.laws_clusters.proofs.SplitLeaves.{Leaves}
use Rattle.laws_clusters.proofs.SplitPackets as own
use Rattle.laws_clusters.proofs.SplitPackets.{told_joined}
use Rattle.laws_clusters.proofs.SplitRequests.{BuildsNew}
use Rattle.laws_clusters.proofs.StepShapes.{AreLeft}

module _ (generation : ℕ → ℕ) (nodes target : ℕ) {base : Bases generation} (c : Cluster) (y : ServerRun) (x : Standing generation nodes target base c y) (calm : base.midst ≡ None) (s : ℕ) (cell : ServerCell) (st : ServerState) (at : entry_at c.servers s ≡ Some cell)
    (is : cell.state ≡ Some st) (range : ℕ) (r : RangeState) (found : range_of st.ranges range ≡ Some r) (job : SplitJob) (was : split_of st.splits range ≡ Some job) (making : IsMaking job.phase)
    (ranges : Option RangeState → List (ℕ × RangeState)) (shape : (o : Option RangeState) → AreLeft st.ranges (ranges o) range o) where
  -- the incarnation of the range that is split
  abbrev pub i : ℕ
  i = own.i generation nodes target c y x s cell st at is range r found (Some job) was

  mine : x.incarnation s range ≡ Some i
  mine = (own.held generation nodes target c y x s cell st at is range r found (Some job) was).is

  -- the stream system
  abbrev pub w : StreamSystem
  w = here generation nodes target x.moves

  -- where it stands in the metadata of the lower range
  abbrev pub a : Side
  a = m_side generation (x.machines job.low) i

  -- and of the higher one
  abbrev pub b : Side
  b = m_side generation (x.machines job.high) i

  -- in the metadata of its own range
  abbrev pub m : Side
  m = m_side generation (x.machines range) i

  -- and in the log of that
  abbrev pub l : Side
  l = l_side generation (x.machines range) i

  follows : FollowsSplit generation range w i m l r job
  follows = (own.holds generation nodes target c y x s cell st at is range r found (Some job) was).follows

  module _ (low : SideIsThere generation nodes target x.moves x.machines (y.history s) i r job Low) (high : SideIsThere generation nodes target x.moves x.machines (y.history s) i r job High) (sides : List SideAction) (keyed : SidesAreOfKeys w.notes sides) where
    -- the server after a step of the split, and the cluster and the run
    abbrev pub last_cell : SplitStep → ServerCell
    last_cell t = record cell { state = Some (record st { context = record st.context { count = t.count }; ranges = ranges t.range; splits = set_split st.splits range t.job }) }

    -- the cluster
    abbrev pub last_cluster : SplitStep → Cluster
    last_cluster t = record c { stream_layer = with_told c.stream_layer t.packets []; servers = slice_set c.servers (s - 1) (last_cell t) }

    -- and the run
    abbrev pub last_run : SplitStep → ServerRun
    last_run t = with_outcome (after_sides s job.generation y sides) (record { servers = slice_set c.servers (s - 1) (last_cell t); packets = t.packets; notes = [] })

    -- what is so of a step
    abbrev pub Stepped : SplitStep → Type 0
    Stepped t = AreLaid (last_run t) [] → Standing generation nodes target base (last_cluster t) (last_run t)

    -- ---- the three steps are one

    abbrev cluster_so : StreamSystem → List ServerCell → Cluster
    cluster_so layer servers = record c { stream_layer = layer; servers = servers }

    abbrev run_so : List StreamAction → List StreamAction → List ServerCell → List ServerCell → List ServerCell → List Packet → List Packet → List Packet → ServerRun
    run_so low_actions high_actions first second third ps qs rs =
        with_outcome (with_outcome (after_actions s job.high (generation i) (with_outcome (after_actions s job.low (generation i) y low_actions) (record { servers = first; packets = ps; notes = [] })) high_actions) (record { servers = second; packets = qs; notes = [] }))
        (record { servers = third; packets = rs; notes = [] })

    module _ (t : SplitStep) (cell1 cell2 : ServerCell) where
      abbrev first_servers : List ServerCell
      first_servers = slice_set c.servers (s - 1) cell1

      abbrev second_servers : List ServerCell
      second_servers = slice_set first_servers (s - 1) cell2

      abbrev third_servers : List ServerCell
      third_servers = slice_set second_servers (s - 1) (last_cell t)

      abbrev last_servers : List ServerCell
      last_servers = slice_set c.servers (s - 1) (last_cell t)

      servers_are : third_servers ≡ last_servers
      servers_are = ap (λ l. slice_set l (s - 1) (last_cell t)) (set_twice c.servers (s - 1) cell1 cell2) ∙ set_twice c.servers (s - 1) cell2 (last_cell t)

      third_aside : AreAside last_servers → AreAside third_servers
      third_aside aside = subst AreAside (sym servers_are) aside

      module _ (ps qs rs : List Packet) (all : (ps ++ qs) ++ rs ≡ t.packets) (low_actions high_actions : List StreamAction) (are : sides ≡ tagged job.high high_actions ++ tagged job.low low_actions) where
        cluster_is : cluster_so (with_told (with_told (with_told c.stream_layer ps []) qs []) rs []) third_servers ≡ last_cluster t
        cluster_is =
            ap (λ k. cluster_so k third_servers) (ap (λ k. with_told k rs []) (told_joined c.stream_layer ps qs []) ∙ told_joined c.stream_layer (ps ++ qs) rs [] ∙ ap (λ k. with_told c.stream_layer k []) all)
            ∙ ap (λ k. cluster_so (with_told c.stream_layer t.packets []) k) servers_are

        run_is : run_so low_actions high_actions first_servers second_servers third_servers ps qs rs ≡ last_run t
        run_is =
            three_done s (generation i) job.low job.high y sides low_actions high_actions are first_servers second_servers third_servers ps qs rs t.packets
            ∙ ap (λ g. with_outcome (after_sides s g y sides) (record { servers = third_servers; packets = t.packets; notes = [] })) (sym follows.under)
            ∙ ap (λ k. with_outcome (after_sides s job.generation y sides) (record { servers = k; packets = t.packets; notes = [] })) servers_are

        joined : Standing generation nodes target base (cluster_so (with_told (with_told (with_told c.stream_layer ps []) qs []) rs []) third_servers) (run_so low_actions high_actions first_servers second_servers third_servers ps qs rs) →
            Standing generation nodes target base (last_cluster t) (last_run t)
        joined stands =
            subst (λ z. Standing generation nodes target base z (last_run t)) cluster_is
            (subst (λ z. Standing generation nodes target base (cluster_so (with_told (with_told (with_told c.stream_layer ps []) qs []) rs []) third_servers) z) run_is stands)

    -- the server in between, once it has used these numbers
    abbrev cell_at : ℕ → ServerCell
    cell_at count = record cell { state = Some (record st { context = record st.context { count = count } }) }

    module _ (t : SplitStep) (g : SidesGo generation w i range m l a b st.context r job t sides) (senders : AllFromServers t.packets) (leaves : Leaves st.context r job t) (builds : BuildsNew c.stream_layer r job t) where
      sides_so : SidesAreOfKeys w.notes (tagged job.high g.high_actions ++ tagged job.low g.low_actions)
      sides_so = subst (λ l. SidesAreOfKeys w.notes l) g.are keyed

      low_keys : AreOfKeys w.notes g.low_actions
      low_keys = untagged w.notes job.low g.low_actions (earlier_sides w.notes (tagged job.high g.high_actions) (tagged job.low g.low_actions) sides_so)

      high_keys : AreOfKeys w.notes g.high_actions
      high_keys = untagged w.notes job.high g.high_actions (later_sides w.notes (tagged job.high g.high_actions) (tagged job.low g.low_actions) sides_so)

      -- as another stream system with the same notes has them
      notes_as : (v : StreamSystem) (ps : List Packet) → v ≡ with_told c.stream_layer ps [] → AreOfKeys v.notes g.high_actions
      notes_as v ps e = subst (λ ns. AreOfKeys ns g.high_actions) (ap (λ (z : StreamSystem). z.notes) x.leads ∙ ap (λ (z : StreamSystem). z.notes) (sym e)) high_keys

      abbrev a_then : Side
      a_then = record { stand = after_turns generation i a.stand g.low_turns; sent = sent_with (request st.context) g.low_purpose a.sent }

      abbrev b_then : Side
      b_then = record { stand = after_turns generation i b.stand g.high_turns; sent = sent_with (request st.context) g.high_purpose b.sent }

      rises : st.context.count ≤ t.count
      rises = elim g.counts [ inl more ↦ omega (arith, more) | inr same ↦ (let e = same.0 in omega (arith, e)) ]

      -- ---- where keys are being appended

      module _ (says : SaysKeys r job t) where
        abbrev later : SplitJob
        later = with_phase job (phases.Keys says.side says.client)

        abbrev keyed_t : SplitStep
        keyed_t = record { range = Some r; job = Some later; count = t.count; packets = t.packets }

        step_is : keyed_t ≡ t
        step_is = (λ j. record { range = (sym says.range_is) j; job = (sym says.job_is) j; count = t.count; packets = t.packets })

        held_so : FollowsSplit generation range w i m l r later
        held_so = subst (λ (z : SplitStep). FollowsBothIf generation range w i z.job z.range m l) (sym step_is) g.held

        stand_so : SidesStand generation w i a_then b_then r later (phases.Keys says.side says.client)
        stand_so = subst (λ (z : SplitStep). SidesStandIf generation w i a_then b_then z.range z.job) (sym step_is) g.then

        -- of the lower range
        module _ (asked : AreOwn generation w i (metadata_of job.low) a_then t.packets) (no_high : g.high_purpose ≡ None) where
          low_first : MetadataMoves generation job.low w i a st.context g.low_turns g.low_purpose g.low_actions t.count t.packets
          low_first = record {
            allowed = g.low_allowed;
            counts = elim g.counts [ inl more ↦ inl more | inr same ↦ inr (same.0, same.1) ];
            keys = low_keys;
            seen = g.low_seen;
            own = asked;
          }

          low_second : (v : StreamSystem) → v ≡ with_told c.stream_layer t.packets [] → MetadataMoves generation job.high v i b (record st.context { count = t.count }) g.high_turns None g.high_actions t.count []
          low_second v e = record { allowed = g.high_allowed; counts = inr (refl, refl); keys = notes_as v t.packets e; seen = g.high_seen; own = tt }

          low_stands : SidesStand generation w i a_then (record { stand = after_turns generation i b.stand g.high_turns; sent = b.sent }) r later (phases.Keys says.side says.client)
          low_stands =
              subst (λ o. SidesStand generation w i a_then (record { stand = after_turns generation i b.stand g.high_turns; sent = sent_with (request st.context) o b.sent }) r later (phases.Keys says.side says.client)) no_high stand_so

          low_stepped : Stepped keyed_t
          low_stepped laid =
              joined keyed_t (cell_at t.count) (cell_at t.count) t.packets [] [] (append-nil (t.packets ++ []) ∙ append-nil t.packets) g.low_actions g.high_actions g.are
              (three.keyed_stands generation nodes target c y x calm s cell st at is range r job was making follows.others i mine low high g.low_turns g.high_turns g.low_purpose None g.low_actions g.high_actions t.count t.count t.packets []
              low_first senders low_second tt found ranges shape says.side says.client held_so low_stands (third_aside keyed_t (cell_at t.count) (cell_at t.count) laid.aside))

        -- of the higher range
        module _ (asked : AreOwn generation w i (metadata_of job.high) b_then t.packets) (no_low : g.low_purpose ≡ None) where
          high_first : MetadataMoves generation job.low w i a st.context g.low_turns None g.low_actions st.context.count []
          high_first = record { allowed = g.low_allowed; counts = inr (refl, refl); keys = low_keys; seen = g.low_seen; own = tt }

          high_second : (v : StreamSystem) → v ≡ with_told c.stream_layer [] [] → MetadataMoves generation job.high v i b (record st.context { count = st.context.count }) g.high_turns g.high_purpose g.high_actions t.count t.packets
          high_second v e = record {
            allowed = g.high_allowed;
            counts = elim g.counts [ inl more ↦ inl more | inr same ↦ inr (same.0, same.2) ];
            keys = notes_as v [] e;
            seen = g.high_seen;
            own = subst (λ (z : StreamSystem). AreOwn generation z i (metadata_of job.high) b_then t.packets) (x.leads ∙ sym (told_nothing c.stream_layer) ∙ sym e) asked;
          }

          high_stands : SidesStand generation w i (record { stand = after_turns generation i a.stand g.low_turns; sent = a.sent }) b_then r later (phases.Keys says.side says.client)
          high_stands =
              subst (λ o. SidesStand generation w i (record { stand = after_turns generation i a.stand g.low_turns; sent = sent_with (request st.context) o a.sent }) b_then r later (phases.Keys says.side says.client)) no_low stand_so

          high_stepped : Stepped keyed_t
          high_stepped laid =
              joined keyed_t (cell_at st.context.count) (cell_at t.count) [] t.packets [] (append-nil t.packets) g.low_actions g.high_actions g.are
              (three.keyed_stands generation nodes target c y x calm s cell st at is range r job was making follows.others i mine low high g.low_turns g.high_turns None g.high_purpose g.low_actions g.high_actions st.context.count t.count [] t.packets
              high_first tt high_second senders found ranges shape says.side says.client held_so high_stands (third_aside keyed_t (cell_at st.context.count) (cell_at t.count) laid.aside))

      -- ---- where they are not

      module _ (plain : ArePlain generation w i job.range t.packets) (unmade : IsUnmadeIf t.job) where
        abbrev count : ℕ
        count = st.context.count

        none_first : MetadataMoves generation job.low w i a st.context g.low_turns None g.low_actions count []
        none_first = record { allowed = g.low_allowed; counts = inr (refl, refl); keys = low_keys; seen = g.low_seen; own = tt }

        none_second : (v : StreamSystem) → v ≡ with_told c.stream_layer [] [] → MetadataMoves generation job.high v i b (record st.context { count = count }) g.high_turns None g.high_actions count []
        none_second v e = record { allowed = g.high_allowed; counts = inr (refl, refl); keys = notes_as v [] e; seen = g.high_seen; own = tt }

        abbrev c2 : Cluster
        c2 =
            three.c2 generation nodes target c y x calm s cell st at is range r job was making follows.others i mine low high g.low_turns g.high_turns None None g.low_actions g.high_actions count count [] []
            none_first tt none_second tt

        abbrev y2 : ServerRun
        y2 =
            three.y2 generation nodes target c y x calm s cell st at is range r job was making follows.others i mine low high g.low_turns g.high_turns None None g.low_actions g.high_actions count count [] []
            none_first tt none_second tt

        abbrev x2 : Standing generation nodes target (in_midst generation base s range) c2 y2
        x2 =
            three.x2 generation nodes target c y x calm s cell st at is range r job was making follows.others i mine low high g.low_turns g.high_turns None None g.low_actions g.high_actions count count [] []
            none_first tt none_second tt

        own_same : x2.machines range ≡ x.machines range
        own_same =
            three.own_machines generation nodes target c y x calm s cell st at is range r job was making follows.others i mine low high g.low_turns g.high_turns None None g.low_actions g.high_actions count count [] []
            none_first tt none_second tt

        same_layer : w ≡ here generation nodes target x2.moves
        same_layer = x.leads ∙ sym (told_nothing c.stream_layer) ∙ sym (told_nothing (with_told c.stream_layer [] [])) ∙ sym x2.leads

        held_then : FollowsBothIf generation range (here generation nodes target x2.moves) i t.job t.range (m_side generation (x2.machines range) i) (l_side generation (x2.machines range) i)
        held_then =
            subst (λ (z : Machines generation). FollowsBothIf generation range (here generation nodes target x2.moves) i t.job t.range (m_side generation z i) (l_side generation z i)) (sym own_same)
            (subst (λ v. FollowsBothIf generation range v i t.job t.range m l) same_layer g.held)

        none_stepped : Stepped t
        none_stepped laid =
            joined t (cell_at count) (cell_at count) [] [] t.packets refl g.low_actions g.high_actions g.are
            (three.ends_stands generation nodes target c y x calm s cell st at is range r job was making follows.others i mine low high g.low_turns g.high_turns None None g.low_actions g.high_actions count count [] []
            none_first tt none_second tt found ranges shape t held_then rises plain senders leaves unmade (record { counted = builds.counted; unbuilt = builds.unbuilt }) (third_aside t (cell_at count) (cell_at count) laid.aside))

      -- a step of the split, whoever asks
      pub keys_stepped : Stepped t
      keys_stepped = by_asked g.asked
        where
          by_asked : AskedOfSides generation w i r job t g.low_purpose g.high_purpose a_then b_then → Stepped t
          by_asked (OfNone plain unmade no_low no_high) = none_stepped plain unmade
          by_asked (OfLow asked says no_high) = subst Stepped (step_is says) (low_stepped says asked no_high)
          by_asked (OfHigh asked says no_low) = subst Stepped (step_is says) (high_stepped says asked no_low)
