-- The metadata of the two ranges that a split makes goes on at its server, that of the lower range first: where the range that is split stays
-- yet as it was, a cluster stands in the midst of the step.
use Rattle.std.proofs.Common.{◌≡◌, ℕ, ◌≤◌, true, false, List, [], ◌∷◌, Option, Some, None, Contains, refl, sym, ap, ◌∙◌, subst, inl, inr, arith}
use Rattle.wire.specs.declared.actor.ReqNo.{ReqNo}
use Rattle.wire.specs.declared.note.Note.{Note}
use Rattle.wire.specs.declared.packet.Packet.{Packet}
use Rattle.wire.specs.declared.streams.StreamKind.TheVariants as kinds
use Rattle.replica.specs.Groups.{Group}
use Rattle.client.specs.Client.{ClientState}
use Rattle.model_streams.specs.Maps.{entry_at}
use Rattle.model_streams.specs.StreamSystem.{StreamSystem, Move}
use Rattle.model_partition.specs.declared.split_job.Side.{Side as SplitSide}
use Rattle.model_partition.specs.declared.split_job.Side.TheVariants.{Low, High}
use Rattle.model_partition.specs.declared.split_job.SplitJob.{SplitJob}
use Rattle.model_partition.specs.declared.split_job.SplitPhase.{SplitPhase}
use Rattle.model_partition.specs.declared.split_job.SplitPhase.TheVariants as phases
use Rattle.model_partition.specs.Cluster.{Cluster}
use Rattle.model_partition.specs.Range.{RangeState, request}
use Rattle.model_partition.specs.Server.{ServerState, range_of, split_of, set_split}
use Rattle.model_partition.specs.Servers.{ServerCell, with_told}
use Rattle.model_partition.specs.Splits.{SplitStep, with_phase, side_range}
use Rattle.model_histories.specs.ServerRun.{ServerRun, RangeHistory}
use Rattle.model_histories.specs.ServerTurns as turns
use Rattle.model_histories.specs.StreamActions.{StreamAction}
use Rattle.laws_loads.proofs.Entries.{entry_set}
use Rattle.laws_stream_machine.specs.Refinement.{Purpose, asked_number}
use Rattle.laws_ranges.specs.Serves.{Side, after_turns, sent_with, metadata_of, log_of, AreAsked, BothListed, IsSentBy}
use Rattle.laws_ranges.specs.SplitJobs.{waits_seal, waits_call, AreOthers, IsUnkeyed, IsUnkeyedIf, FollowsSplit, FollowsBothIf}
use Rattle.laws_ranges.specs.SplitSides.{IsUnmade, IsUnmadeIf, ArePlain, SidesStand}
use Rattle.laws_ranges.proofs.SplitSteps.{still_plain}
use Rattle.laws_ranges.proofs.SplitsKept.{follows_both_on}
use Rattle.laws_servers.specs.Sending.{AllFromServers}
use Rattle.laws_server_runs.specs.RunInvariant.{view_at}
use Rattle.laws_server_runs.proofs.Actions.{actions_apart}
use Rattle.laws_clusters.proofs.Invariant.{IsMaking, AreAside, HeldAt, SplitAt, OfRows, SideIsThere, KeysStand, Machines, here, m_side, l_side, Standing, Bases}
use Rattle.laws_clusters.proofs.KeysMoves as one
use Rattle.laws_clusters.proofs.KeysMoves.{MetadataMoves}
use Rattle.laws_clusters.proofs.MidstOfSteps.{in_midst, into_midst, out_of_midst}
use Rattle.laws_clusters.proofs.MapWords.{IsFounded}
use Rattle.laws_clusters.proofs.OtherRanges.{onward_same}
use Rattle.laws_clusters.proofs.RangeRules.{both}
use Rattle.laws_clusters.proofs.RangeStreams.{catalog_stays, streams_stay}
use Rattle.laws_clusters.proofs.RangeSteps.{IsSteady, IsOnward}
use Rattle.laws_clusters.proofs.RequestNumbers.{used_number}
use Rattle.laws_clusters.proofs.RowSteps.{WasOut}
use Rattle.laws_clusters.proofs.ServerRules.{plain_laid}
use Rattle.laws_clusters.proofs.SplitLeaves.{same_out, Leaves, leaves_none}
use Rattle.laws_clusters.proofs.SplitPackets as own
use Rattle.laws_clusters.proofs.SplitRequests.{BuildsNew}
use Rattle.laws_clusters.proofs.SplitRules.{split_acted}
use Rattle.laws_clusters.proofs.SplitSidesKept.{SideGoes, side_goes, sides_on, side_there_on, same_keys, keys_on}
use Rattle.laws_clusters.proofs.SplitStands as split
use Rattle.laws_clusters.proofs.StepKeys.{both_other}
use Rattle.laws_clusters.proofs.StepServers as left
use Rattle.laws_clusters.proofs.StepShapes.{other_range, AreLeft, SplitsLeft, StepWaits}

-- what is made no more has no keys appended
unkeyed : (o : Option SplitJob) → IsUnmadeIf o → IsUnkeyedIf o
unkeyed None none = tt
unkeyed (Some job) none = go job.phase none
  where
    go : (phase : SplitPhase) → IsUnmade phase → IsUnkeyed phase
    go (phases.Build q) none = absurd none
    go (phases.Keys side c) none = absurd none
    go phase none = tt

-- ---- stream systems that differ in packets alone

-- two that are the same as these
pub same_catalog : (a b c d : StreamSystem) → a ≡ c → b ≡ d → d.catalog ≡ c.catalog → b.catalog ≡ a.catalog
same_catalog a b c d one two same = ap (λ (z : StreamSystem). z.catalog) two ∙ same ∙ ap (λ (z : StreamSystem). z.catalog) (sym one)

pub same_notes : (a b c d : StreamSystem) → a ≡ c → b ≡ d → d.notes ≡ c.notes → (note : Note) → Contains a.notes note → Contains b.notes note
same_notes a b c d one two same note there =
    subst (λ (z : StreamSystem). Contains z.notes note) (sym two) (subst (λ ns. Contains ns note) (sym same) (subst (λ (z : StreamSystem). Contains z.notes note) one there))

module _ (generation : ℕ → ℕ) (nodes target : ℕ) (moves later : List Move) (same : (here generation nodes target later).catalog ≡ (here generation nodes target moves).catalog)
    (notes : (note : Note) → Contains (here generation nodes target moves).notes note → Contains (here generation nodes target later).notes note) (machines next : ℕ → Machines generation) (history after : ℕ → RangeHistory) (i : ℕ) where
  -- a range whose machines stay
  pub side_kept : (j : ℕ) → next j ≡ machines j → (after j).append kinds.Metadata ≡ (history j).append kinds.Metadata → SideGoes generation nodes target moves later machines next history after i j
  side_kept j is append =
      side_goes generation nodes target moves later machines next history after i j
      (subst (λ z. IsOnward generation nodes target j moves later (machines j) z) (sym is) (onward_same generation nodes target j moves later (machines j) same notes)) (subst (λ z. IsSteady generation (machines j) z i) (sym is) (refl, refl)) append
      (streams_stay (here generation nodes target moves) (here generation nodes target later) (catalog_stays (here generation nodes target moves) (here generation nodes target later) same) j)

module _ (generation : ℕ → ℕ) (nodes target : ℕ) {base : Bases generation} (c : Cluster) (y : ServerRun) (x : Standing generation nodes target base c y) (calm : base.midst ≡ None) (s : ℕ) (cell : ServerCell) (st : ServerState) (at : entry_at c.servers s ≡ Some cell)
    (is : cell.state ≡ Some st) (range : ℕ) (r : RangeState) (job : SplitJob) (was : split_of st.splits range ≡ Some job) (making : IsMaking job.phase) (others : AreOthers range job job.phase) (i : ℕ) (mine : x.incarnation s range ≡ Some i)
    (low : SideIsThere generation nodes target x.moves x.machines (y.history s) i r job Low) (high : SideIsThere generation nodes target x.moves x.machines (y.history s) i r job High) where
  -- the stream system before the step
  abbrev pub w : StreamSystem
  w = here generation nodes target x.moves

  -- where the incarnation stands in the metadata of the lower range
  abbrev pub a : Side
  a = m_side generation (x.machines job.low) i

  -- and of the higher one
  abbrev pub b : Side
  b = m_side generation (x.machines job.high) i

  -- the cluster, in the midst of the step
  abbrev pub x0 : Standing generation nodes target (in_midst generation base s range) c y
  x0 = into_midst generation nodes target base c y s range x calm

  split_here : SplitAt c.servers s range job
  split_here = record { cell = cell; state = st; there = at; up = is; found = was }

  -- the two are two
  pub differ : job.high ≡ job.low → ⊥
  differ same = x.aside.two s range job split_here making (sym same)

  -- what is done on the metadata of each, under these numbers
  module _ (low_turns high_turns : List (turns.Turn Group)) (low_purpose high_purpose : Option Purpose) (low_actions high_actions : List StreamAction) (between count : ℕ) (ps qs : List Packet)
      (first : MetadataMoves generation job.low w i a st.context low_turns low_purpose low_actions between ps) (from_first : AllFromServers ps)
      (second : (v : StreamSystem) → v ≡ with_told c.stream_layer ps [] → MetadataMoves generation job.high v i b (record st.context { count = between }) high_turns high_purpose high_actions count qs) (from_second : AllFromServers qs) where
    -- ---- the lower range

    -- the cluster once the lower range went on
    abbrev pub c1 : Cluster
    c1 = one.cluster_then generation nodes target c y x0 s cell st at is range r job was making refl i mine Low low low_turns low_purpose low_actions between ps first from_first

    -- its run
    abbrev pub y1 : ServerRun
    y1 = one.run_then generation nodes target c y x0 s cell st at is range r job was making refl i mine Low low low_turns low_purpose low_actions between ps first from_first

    -- its server
    abbrev pub st1 : ServerState
    st1 = record st { context = record st.context { count = between } }

    -- the cell of that
    abbrev pub cell1 : ServerCell
    cell1 = record cell { state = Some st1 }

    -- it stands
    pub x1 : Standing generation nodes target (in_midst generation base s range) c1 y1
    x1 = one.moves generation nodes target c y x0 s cell st at is range r job was making refl i mine Low low low_turns low_purpose low_actions between ps first from_first

    -- the cell is there
    pub at1 : entry_at c1.servers s ≡ Some cell1
    at1 = entry_set c.servers s cell cell1 at

    -- the range that is split is of the incarnation that it was of
    pub mine1 : x1.incarnation s range ≡ Some i
    unfolding x1
    mine1 = one.moves_incarnation generation nodes target c y x0 s cell st at is range r job was making refl i mine Low low low_turns low_purpose low_actions between ps first from_first ∙ mine

    -- the machines of other ranges stay
    pub other1 : (j : ℕ) → (j ≡ job.low → ⊥) → x1.machines j ≡ x.machines j
    unfolding x1
    other1 = one.moves_other generation nodes target c y x0 s cell st at is range r job was making refl i mine Low low low_turns low_purpose low_actions between ps first from_first

    catalog1 : (here generation nodes target x1.moves).catalog ≡ w.catalog
    catalog1 = same_catalog w (here generation nodes target x1.moves) c.stream_layer c1.stream_layer x.leads x1.leads refl

    notes1 : (note : Note) → Contains w.notes note → Contains (here generation nodes target x1.moves).notes note
    notes1 = same_notes w (here generation nodes target x1.moves) c.stream_layer c1.stream_layer x.leads x1.leads refl

    -- the history of another range is as it was
    history1 : (j : ℕ) → (j ≡ job.low → ⊥) → y1.history s j ≡ y.history s j
    history1 j apart = actions_apart s job.low (generation i) s j (other_range s s j job.low apart) y low_actions

    -- the higher range is there still
    pub high1 : SideIsThere generation nodes target x1.moves x1.machines (y1.history s) i r job High
    high1 =
        side_there_on generation nodes target x.moves x1.moves x.machines x1.machines (y.history s) (y1.history s) i job r r (same_keys r) High
        (side_kept generation nodes target x.moves x1.moves catalog1 notes1 x.machines x1.machines (y.history s) (y1.history s) i job.high (other1 job.high differ) (ap (λ (h : RangeHistory). h.append kinds.Metadata) (history1 job.high differ))) high

    -- and what is to be done on its metadata may be done
    pub second1 : MetadataMoves generation job.high (here generation nodes target x1.moves) i (m_side generation (x1.machines job.high) i) st1.context high_turns high_purpose high_actions count qs
    second1 =
        subst (λ (z : Machines generation). MetadataMoves generation job.high (here generation nodes target x1.moves) i (m_side generation z i) st1.context high_turns high_purpose high_actions count qs) (sym (other1 job.high differ))
        (second (here generation nodes target x1.moves) x1.leads)

    -- ---- the higher one

    -- the cluster once both went on
    abbrev pub c2 : Cluster
    c2 = one.cluster_then generation nodes target c1 y1 x1 s cell1 st1 at1 refl range r job was making refl i mine1 High high1 high_turns high_purpose high_actions count qs second1 from_second

    -- its run
    abbrev pub y2 : ServerRun
    y2 = one.run_then generation nodes target c1 y1 x1 s cell1 st1 at1 refl range r job was making refl i mine1 High high1 high_turns high_purpose high_actions count qs second1 from_second

    -- its server
    abbrev pub st2 : ServerState
    st2 = record st { context = record st.context { count = count } }

    -- the cell of that
    abbrev pub cell2 : ServerCell
    cell2 = record cell { state = Some st2 }

    -- it stands
    pub x2 : Standing generation nodes target (in_midst generation base s range) c2 y2
    x2 = one.moves generation nodes target c1 y1 x1 s cell1 st1 at1 refl range r job was making refl i mine1 High high1 high_turns high_purpose high_actions count qs second1 from_second

    -- the cell is there
    pub at2 : entry_at c2.servers s ≡ Some cell2
    at2 = entry_set c1.servers s cell1 cell2 at1

    -- the range that is split is of the incarnation that it was of
    pub mine2 : x2.incarnation s range ≡ Some i
    unfolding x2
    mine2 = one.moves_incarnation generation nodes target c1 y1 x1 s cell1 st1 at1 refl range r job was making refl i mine1 High high1 high_turns high_purpose high_actions count qs second1 from_second ∙ mine1

    other2 : (j : ℕ) → (j ≡ job.high → ⊥) → x2.machines j ≡ x1.machines j
    unfolding x2
    other2 = one.moves_other generation nodes target c1 y1 x1 s cell1 st1 at1 refl range r job was making refl i mine1 High high1 high_turns high_purpose high_actions count qs second1 from_second

    -- the range that is split stays as it was
    pub own_machines : x2.machines range ≡ x.machines range
    own_machines = other2 range (λ same. both_other range job job.phase making others High (sym same)) ∙ other1 range (λ same. both_other range job job.phase making others Low (sym same))

    -- the catalog stays
    pub catalog2 : (here generation nodes target x2.moves).catalog ≡ w.catalog
    catalog2 = same_catalog w (here generation nodes target x2.moves) c.stream_layer c2.stream_layer x.leads x2.leads refl

    -- and so does what was observed
    pub notes2 : (note : Note) → Contains w.notes note → Contains (here generation nodes target x2.moves).notes note
    notes2 = same_notes w (here generation nodes target x2.moves) c.stream_layer c2.stream_layer x.leads x2.leads refl

    low_differs : job.low ≡ job.high → ⊥
    low_differs same = differ (sym same)

    low1 : SideIsThere generation nodes target x1.moves x1.machines (y1.history s) i r job Low
    unfolding x1
    low1 = one.moves_there generation nodes target c y x0 s cell st at is range r job was making refl i mine Low low low_turns low_purpose low_actions between ps first from_first

    -- both are there
    pub low2 : SideIsThere generation nodes target x2.moves x2.machines (y2.history s) i r job Low
    low2 =
        side_there_on generation nodes target x1.moves x2.moves x1.machines x2.machines (y1.history s) (y2.history s) i job r r (same_keys r) Low
        (side_kept generation nodes target x1.moves x2.moves (same_catalog (here generation nodes target x1.moves) (here generation nodes target x2.moves) c1.stream_layer c2.stream_layer x1.leads x2.leads refl)
        (same_notes (here generation nodes target x1.moves) (here generation nodes target x2.moves) c1.stream_layer c2.stream_layer x1.leads x2.leads refl) x1.machines x2.machines (y1.history s) (y2.history s) i job.low (other2 job.low low_differs)
        (ap (λ (h : RangeHistory). h.append kinds.Metadata) (actions_apart s job.high (generation i) s job.low (other_range s s job.low job.high low_differs) y1 high_actions))) low1

    -- the higher one as well
    pub high2 : SideIsThere generation nodes target x2.moves x2.machines (y2.history s) i r job High
    unfolding x2
    high2 = one.moves_there generation nodes target c1 y1 x1 s cell1 st1 at1 refl range r job was making refl i mine1 High high1 high_turns high_purpose high_actions count qs second1 from_second

    -- and this is where the incarnation stands in their metadata
    pub low_side : m_side generation (x2.machines job.low) i ≡ record { stand = after_turns generation i a.stand low_turns; sent = sent_with (request st.context) low_purpose a.sent }
    unfolding x1
    low_side =
        ap (λ (z : Machines generation). m_side generation z i) (other2 job.low low_differs)
        ∙ one.moves_side generation nodes target c y x0 s cell st at is range r job was making refl i mine Low low low_turns low_purpose low_actions between ps first from_first

    -- and the higher one
    pub high_side : m_side generation (x2.machines job.high) i ≡ record { stand = after_turns generation i b.stand high_turns; sent = sent_with (request st1.context) high_purpose b.sent }
    unfolding x2
    high_side =
        one.moves_side generation nodes target c1 y1 x1 s cell1 st1 at1 refl range r job was making refl i mine1 High high1 high_turns high_purpose high_actions count qs second1 from_second
        ∙ ap (λ (z : Machines generation). record { stand = after_turns generation i (m_side generation z i).stand high_turns; sent = sent_with (request st1.context) high_purpose (m_side generation z i).sent }) (other1 job.high differ)

    -- ---- the range that is split, and its split

    module _ (found : range_of st.ranges range ≡ Some r) (ranges : Option RangeState → List (ℕ × RangeState)) (shape : (o : Option RangeState) → AreLeft st.ranges (ranges o) range o) where
      abbrev v : StreamSystem
      v = here generation nodes target x2.moves

      abbrev i2 : ℕ
      i2 = own.i generation nodes target c2 y2 x2 s cell2 st2 at2 refl range r found (Some job) was

      -- it is of the incarnation that it was of
      i2_is : i2 ≡ i
      i2_is = let both : Some i2 ≡ Some i = sym (own.held generation nodes target c2 y2 x2 s cell2 st2 at2 refl range r found (Some job) was).is ∙ mine2 in cc

      abbrev m2 : Side
      m2 = m_side generation (x2.machines range) i2

      abbrev l2 : Side
      l2 = l_side generation (x2.machines range) i2

      abbrev founded : IsFounded c2.stream_layer range
      founded = own.founded generation nodes target c2 y2 x2 s cell2 st2 at2 refl range r found (Some job) was

      lists : BothListed v range
      lists = both generation nodes target c2 y2 x2 range founded

      by : IsSentBy st2.context st2.context.count m2.sent l2.sent
      by = own.sent_by generation nodes target c2 y2 x2 s cell2 st2 at2 refl range r found (Some job) was

      -- a step of it that adds nothing to its streams
      abbrev Acts : SplitStep → Type 0
      Acts t = own.Does generation nodes target c2 y2 x2 s cell2 st2 at2 refl range r found (Some job) was t []

      acts : (t : SplitStep) → FollowsBothIf generation range v i2 t.job t.range m2 l2 → count ≤ t.count → AreAsked generation range v i2 (log_of range) l2.stand l2.sent t.packets → (t.job ≡ None → t.range ≡ None) → Acts t
      acts t follows rises asked ends =
          split_acted generation nodes target c2 y2 x2 range founded i2 st2.context by (view_at range y2 s) (own.seen_here generation nodes target c2 y2 x2 s cell2 st2 at2 refl range r found (Some job) was) r job
          (own.holds generation nodes target c2 y2 x2 s cell2 st2 at2 refl range r found (Some job) was).follows (own.past_rows generation nodes target c2 y2 x2 s cell2 st2 at2 refl range r found (Some job) was) t
          (still_plain generation range v i2 lists m2 l2 st2.context by (view_at range y2 s) t follows rises asked) ends

      -- what the server has then, and what is so of it
      abbrev pub c3 : SplitStep → Cluster
      c3 t = own.cluster_after generation nodes target c2 y2 x2 s cell2 st2 at2 refl range r found (Some job) was t [] (ranges t.range) (set_split st.splits range t.job)

      -- and its run
      abbrev pub y3 : SplitStep → ServerRun
      y3 t = own.run_after generation nodes target c2 y2 x2 s cell2 st2 at2 refl range r found (Some job) was t [] [] (ranges t.range) (set_split st.splits range t.job)

      split_shape : (o : Option SplitJob) → SplitsLeft st.splits (set_split st.splits range o) range o
      split_shape = own.splits_of generation nodes target c2 y2 x2 s cell2 st2 at2 refl range r found (Some job) was

      abbrev st3 : SplitStep → ServerState
      st3 t = own.state_after generation nodes target c2 y2 x2 s cell2 st2 at2 refl range r found (Some job) was t (ranges t.range) (set_split st.splits range t.job)

      range_then : (t : SplitStep) (z : RangeState) → HeldAt (c3 t).servers s range z → t.range ≡ Some z
      range_then t = left.own_range c2.servers s cell2 st2 at2 refl range t.range t.job (st3 t) (shape t.range) (split_shape t.job)

      split_then : (t : SplitStep) (k : SplitJob) → SplitAt (c3 t).servers s range k → t.job ≡ Some k
      split_then t = left.own_split c2.servers s cell2 st2 at2 refl range t.range t.job (st3 t) (shape t.range) (split_shape t.job)

      -- in the midst of a step nothing is said of the two
      midst_keys : (t : SplitStep) → own.OwnKeys generation nodes target c2 y2 x2 s cell2 st2 at2 refl range r found (Some job) was t
      midst_keys t next is_next later is_later firm = absurd (firm refl)

      -- ---- the two are not made any more

      module _ (t : SplitStep) (held : FollowsBothIf generation range v i t.job t.range (m_side generation (x2.machines range) i) (l_side generation (x2.machines range) i)) (rises : count ≤ t.count) (plain : ArePlain generation w i job.range t.packets)
          (senders : AllFromServers t.packets) (leaves : Leaves st2.context r job t) (unmade : IsUnmadeIf t.job) (builds : BuildsNew c2.stream_layer r job t) (aside : AreAside (c3 t).servers) where
        ends_acts : Acts t
        ends_acts =
            acts t (subst (λ n. FollowsBothIf generation range v n t.job t.range (m_side generation (x2.machines range) n) (l_side generation (x2.machines range) n)) (sym i2_is) held) rises (plain_asked t.packets plain) (leaves_none st2.context r job t leaves)
          where
            plain_asked : (packets : List Packet) → ArePlain generation w i job.range packets → AreAsked generation range v i2 (log_of range) l2.stand l2.sent packets
            plain_asked [] all = tt
            plain_asked (p ∷ packets) all = (inl all.0, plain_asked packets all.1)

        x3 : Standing generation nodes target (in_midst generation base s range) (c3 t) (y3 t)
        x3 =
            split.split_stands generation nodes target c2 y2 x2 s cell2 st2 at2 refl range r found job was t [] [] ends_acts senders leaves (inr (unkeyed t.job unmade)) builds
            (ranges t.range) (shape t.range) (set_split st.splits range t.job) (split_shape t.job) (plain_laid (y3 t) [] tt aside)

        -- the cluster stands after the step
        pub ends_stands : Standing generation nodes target base (c3 t) (y3 t)
        ends_stands = out_of_midst generation nodes target base (c3 t) (y3 t) s range x3 (λ z k h one n here. no_keys z k k.phase (subst (λ o. IsUnmadeIf o) (split_then t k one) unmade) n)
          where
            no_keys : (z : RangeState) (k : SplitJob) (phase : SplitPhase) → IsUnmade phase → (n : ℕ) → KeysStand generation nodes target x3.moves x3.machines ((y3 t).history s) n z k phase
            no_keys z k (phases.Build q) none n = absurd none
            no_keys z k (phases.Keys part client) none n = absurd none
            no_keys z k phase none n = tt

      -- ---- their keys are being appended

      module _ (part : SplitSide) (client : ClientState) (held : FollowsSplit generation range w i (m_side generation (x.machines range) i) (l_side generation (x.machines range) i) r (with_phase job (phases.Keys part client)))
          (stand : SidesStand generation w i (record { stand = after_turns generation i a.stand low_turns; sent = sent_with (request st.context) low_purpose a.sent })
          (record { stand = after_turns generation i b.stand high_turns; sent = sent_with (request st1.context) high_purpose b.sent }) r (with_phase job (phases.Keys part client)) (phases.Keys part client)) where
        -- the split goes on so
        abbrev pub later : SplitJob
        later = with_phase job (phases.Keys part client)

        -- by this step, which leaves the range as it is
        abbrev pub keyed_step : SplitStep
        keyed_step = record { range = Some r; job = Some later; count = count; packets = [] }

        onward : IsOnward generation nodes target range x.moves x2.moves (x.machines range) (x2.machines range)
        onward = subst (λ z. IsOnward generation nodes target range x.moves x2.moves (x.machines range) z) (sym own_machines) (onward_same generation nodes target range x.moves x2.moves (x.machines range) catalog2 notes2)

        steady : IsSteady generation (x.machines range) (x2.machines range) i
        steady = subst (λ z. IsSteady generation (x.machines range) z i) (sym own_machines) (refl, refl)

        held_here : HeldAt c2.servers s range r
        held_here = record { cell = cell2; state = st2; there = at2; up = refl; found = found }

        follows : FollowsSplit generation range v i2 m2 l2 r later
        follows =
            subst (λ n. FollowsSplit generation range v n (m_side generation (x2.machines range) n) (l_side generation (x2.machines range) n) r later) (sym i2_is)
            (follows_both_on generation range w v i (m_side generation (x.machines range) i) (m_side generation (x2.machines range) i) (l_side generation (x.machines range) i) (l_side generation (x2.machines range) i) onward.metadata steady.0 onward.log steady.1 onward.rows r
            (λ q waits. (x2.out s range OfRows q (r, held_here, waits)).none tt range) (Some later) (λ k is_k q waits. absurd (let same : later ≡ k = cc in let e : false ≡ true = ap (λ (z : SplitJob). waits_seal z.phase q) same ∙ waits in cc)) held)

        keyed_acts : Acts keyed_step
        keyed_acts = acts keyed_step follows (omega arith) tt (λ e. absurd cc)

        waits_none : StepWaits st2 range keyed_step []
        waits_none next is_next =
            let same : r ≡ next = cc in
            let out : WasOut r.rows next.rows = subst (λ (z : RangeState). WasOut r.rows z.rows) same (same_out r.rows) in
            record {
              rows = λ q waits. inl (r, found, out);
              seal = λ k is_k q waits. absurd (let e : later ≡ k = cc in let z : false ≡ true = ap (λ (z : SplitJob). waits_seal z.phase q) e ∙ waits in cc);
              call = λ k is_k q waits. absurd (let e : later ≡ k = cc in let z : false ≡ true = ap (λ (z : SplitJob). waits_call z.phase q) e ∙ waits in cc);
              steady = inl (λ q waits. (r, found, out));
              sent = tt;
            }

        module _ (aside : AreAside (c3 keyed_step).servers) where
          ends : keyed_step.range ≡ None → keyed_step.job ≡ None
          ends e = absurd (let z : Some r ≡ None = e in cc)

          gone : keyed_step.range ≡ None → (p : Packet) → Contains [] p → (q : ReqNo) → used_number p.body ≡ Some q → asked_number p.body ≡ Some q
          gone e = absurd (let z : Some r ≡ None = e in cc)

          keyed_x3 : Standing generation nodes target (in_midst generation base s range) (c3 keyed_step) (y3 keyed_step)
          keyed_x3 =
              own.step_stands generation nodes target c2 y2 x2 s cell2 st2 at2 refl range r found (Some job) was keyed_step [] [] keyed_acts tt waits_none ends gone tt (midst_keys keyed_step)
              (ranges (Some r)) (shape (Some r)) (set_split st.splits range (Some later)) (split_shape (Some later)) (plain_laid (y3 keyed_step) [] tt aside)

          machines3 : (j : ℕ) → (j ≡ range → ⊥) → keyed_x3.machines j ≡ x2.machines j
          unfolding keyed_x3
          machines3 =
              own.step_machines generation nodes target c2 y2 x2 s cell2 st2 at2 refl range r found (Some job) was keyed_step [] [] keyed_acts tt waits_none ends gone tt (midst_keys keyed_step)
              (ranges (Some r)) (shape (Some r)) (set_split st.splits range (Some later)) (split_shape (Some later)) (plain_laid (y3 keyed_step) [] tt aside)

          mine3 : keyed_x3.incarnation s range ≡ Some i
          unfolding keyed_x3
          mine3 =
              own.step_incarnation generation nodes target c2 y2 x2 s cell2 st2 at2 refl range r found (Some job) was keyed_step [] [] keyed_acts tt waits_none ends gone tt (midst_keys keyed_step)
              (ranges (Some r)) (shape (Some r)) (set_split st.splits range (Some later)) (split_shape (Some later)) (plain_laid (y3 keyed_step) [] tt aside) r refl
              ∙ ap (λ n. Some n) i2_is

          -- the two stand so before it
          sides2 : SidesStand generation v i (m_side generation (x2.machines job.low) i) (m_side generation (x2.machines job.high) i) r later (phases.Keys part client)
          sides2 =
              sides_on generation nodes target x.moves x2.moves x2.machines x2.machines (y2.history s) (y2.history s) i later r r (same_keys r)
              (side_kept generation nodes target x.moves x2.moves catalog2 notes2 x2.machines x2.machines (y2.history s) (y2.history s) i job.low refl refl)
              (side_kept generation nodes target x.moves x2.moves catalog2 notes2 x2.machines x2.machines (y2.history s) (y2.history s) i job.high refl refl) (phases.Keys part client)
              (subst (λ z. SidesStand generation w i z (m_side generation (x2.machines job.high) i) r later (phases.Keys part client)) (sym low_side)
              (subst (λ z. SidesStand generation w i (record { stand = after_turns generation i a.stand low_turns; sent = sent_with (request st.context) low_purpose a.sent }) z r later (phases.Keys part client)) (sym high_side) stand))

          there2 : (side : SplitSide) → SideIsThere generation nodes target x2.moves x2.machines (y2.history s) i r later side
          there2 Low = record { counted = low2.counted; streams = low2.streams; append = low2.append; log = low2.log }
          there2 High = record { counted = high2.counted; streams = high2.streams; append = high2.append; log = high2.log }

          catalog3 : (here generation nodes target keyed_x3.moves).catalog ≡ v.catalog
          catalog3 = same_catalog v (here generation nodes target keyed_x3.moves) c2.stream_layer (c3 keyed_step).stream_layer x2.leads keyed_x3.leads refl

          kept3 : (side : SplitSide) → SideGoes generation nodes target x2.moves keyed_x3.moves x2.machines keyed_x3.machines (y2.history s) ((y3 keyed_step).history s) i (side_range later side)
          kept3 side =
              side_kept generation nodes target x2.moves keyed_x3.moves catalog3 (same_notes v (here generation nodes target keyed_x3.moves) c2.stream_layer (c3 keyed_step).stream_layer x2.leads keyed_x3.leads refl) x2.machines keyed_x3.machines (y2.history s)
              ((y3 keyed_step).history s) i (side_range later side) (machines3 (side_range later side) (both_other range later (phases.Keys part client) tt held.others side)) refl

          -- and so they do after it
          sides3 : KeysStand generation nodes target keyed_x3.moves keyed_x3.machines ((y3 keyed_step).history s) i r later (phases.Keys part client)
          sides3 =
              keys_on generation nodes target x2.moves keyed_x3.moves x2.machines keyed_x3.machines (y2.history s) ((y3 keyed_step).history s) i later r r (same_keys r) (phases.Keys part client)
              (λ yes side there. catalog_stays (here generation nodes target keyed_x3.moves) v (sym catalog3) (metadata_of (side_range later side)) there) (λ yes side there. kept3 side) (sides2, there2)

          -- the cluster stands after the step
          pub keyed_stands : Standing generation nodes target base (c3 keyed_step) (y3 keyed_step)
          keyed_stands = out_of_midst generation nodes target base (c3 keyed_step) (y3 keyed_step) s range keyed_x3 keys
            where
              keys : (z : RangeState) (k : SplitJob) → HeldAt (c3 keyed_step).servers s range z → SplitAt (c3 keyed_step).servers s range k → (n : ℕ) → keyed_x3.incarnation s range ≡ Some n →
                  KeysStand generation nodes target keyed_x3.moves keyed_x3.machines ((y3 keyed_step).history s) n z k k.phase
              keys z k h one n here_n =
                  let kept : Some r ≡ Some z = range_then keyed_step z h in
                  let range_is : r ≡ z = cc in
                  let splits : Some later ≡ Some k = split_then keyed_step k one in
                  let split_is : later ≡ k = cc in
                  let numbers : Some i ≡ Some n = sym mine3 ∙ here_n in
                  let number_is : i ≡ n = cc in
                  subst (λ o. KeysStand generation nodes target keyed_x3.moves keyed_x3.machines ((y3 keyed_step).history s) o z k k.phase) number_is
                  (subst (λ o. KeysStand generation nodes target keyed_x3.moves keyed_x3.machines ((y3 keyed_step).history s) i o k k.phase) range_is
                  (subst (λ (o : SplitJob). KeysStand generation nodes target keyed_x3.moves keyed_x3.machines ((y3 keyed_step).history s) i r o o.phase) split_is sides3))
