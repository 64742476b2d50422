-- A cluster stands on through each event of the stream layer, which may build the streams of two ranges of another's.
use Rattle.std.proofs.Common.{◌≡◌, ◌⊎◌, ℕ, zero, suc, ◌+◌, ◌≤◌, Bool, true, false, List, [], ◌∷◌, ◌++◌, length, map, Option, Some, Contains, slice_get, refl, sym, ap, ◌∙◌, subst, inl, inr, arith, if◌then◌else◌}
use Rattle.std.proofs.lemmas.List.{length-append}
use Rattle.std.proofs.lemmas.Option.{slice_get_within}
use Rattle.wire.specs.declared.actor.ReqNo.{ReqNo}
use Rattle.wire.specs.declared.note.Note.{Note}
use Rattle.wire.specs.declared.streams.StreamKind.TheVariants as kinds
use Rattle.wire.specs.declared.streams.StreamName.{StreamName}
use Rattle.replica.specs.Groups.{Group}
use Rattle.streams.specs.Streams.{stream_of, whole}
use Rattle.client.specs.Client.{ClientState}
use Rattle.model_streams.specs.declared.event.Event.{Event}
use Rattle.model_streams.specs.Maps.{entry_at}
use Rattle.model_streams.specs.StreamSystem.{StreamSystem, Move, happens, start}
use Rattle.model_streams.specs.StreamSystem.Move.{Happens}
use Rattle.laws_streams.proofs.Invariant.{run_moves_push}
use Rattle.laws_streams.proofs.Listings.{lists_grow}
use Rattle.laws_streams.proofs.PacketSources.{moved_gains}
use Rattle.laws_streams.specs.Listings.{Longer}
use Rattle.model_partition.specs.Cluster.{Cluster}
use Rattle.model_partition.specs.declared.split_job.Side.{Side as SplitSide}
use Rattle.model_partition.specs.declared.split_job.SplitJob.{SplitJob}
use Rattle.model_partition.specs.declared.split_job.SplitPhase.{SplitPhase}
use Rattle.model_partition.specs.declared.split_job.SplitPhase.TheVariants as phases
use Rattle.model_partition.specs.Past.{first_range}
use Rattle.model_partition.specs.Range.{RangeState}
use Rattle.model_partition.specs.Splits.{side_range}
use Rattle.model_partition.specs.Server.{ServerState, split_of}
use Rattle.model_partition.specs.Servers.{ServerCell}
use Rattle.model_histories.specs.StreamMachine.{MachineState, MachineStep}
use Rattle.model_histories.specs.ServedTables.{AreSeenAs}
use Rattle.model_histories.specs.ServerRun.{ServerRun, RangeHistory, stream_named}
use Rattle.model_histories.specs.ServerTurns.{Below, after_all, AreMoves}
use Rattle.model_histories.specs.ServerTurns as machine
use Rattle.laws_stream_machine.specs.Refinement.{Sent, IsThere, extents_of, extents_in}
use Rattle.laws_stream_machine.proofs.BuiltStreams.{Machine}
use Rattle.laws_stream_machine.proofs.MachineCore.{get_same}
use Rattle.laws_stream_machine.proofs.SentPackets.{Ahead}
use Rattle.laws_ranges.specs.Seen.{BeganAt}
use Rattle.laws_ranges.specs.Serves.{metadata_of, log_of, rows_of, Apart, Wider}
use Rattle.laws_ranges.specs.SplitJobs.{RestsIs, PhaseStands, FollowsSplit}
use Rattle.laws_ranges.specs.SplitSides.{SideWaits}
use Rattle.laws_ranges.proofs.MoreKnown.{told_on}
use Rattle.laws_ranges.proofs.BuiltSides.{side_begins}
use Rattle.laws_server_runs.specs.FamilyMembers.{of_servers}
use Rattle.laws_clusters.proofs.Copies.{AllSay}
use Rattle.laws_clusters.proofs.GrownLists.{GrewFrom, grew_on, grew_none}
use Rattle.laws_clusters.proofs.Invariant.{HeldAt, SplitAt, IsMaking, SeesAll, IsOther, Machines, HasNumber, HasNone, OfRows, OfSeal, Out, AllOut, m_side, l_side, IsIdle, IsStream, AreBeside, there_below, here, IsHeld, KeysStand, Runs, Standing, Bases, HaveGrown}
use Rattle.laws_clusters.proofs.LayerSteps.{layer_same}
use Rattle.laws_clusters.proofs.MapWords.{all_stay, word_stays}
use Rattle.laws_clusters.proofs.ObservedBytes.{AreObserved, observed_on, tells_fewer}
use Rattle.laws_clusters.proofs.OtherRanges.{holds_on, held_on}
use Rattle.laws_clusters.proofs.RangeSteps.{IsSteady, IsOnward}
use Rattle.laws_clusters.proofs.RangeStreams.{AllStay, HasStreams, streams_stay, split_stays}
use Rattle.laws_clusters.proofs.RowAnswers.{still_at}
use Rattle.laws_clusters.proofs.ServerNotes.{server_notes}
use Rattle.laws_clusters.proofs.SplitSidesKept.{same_keys, SideGoes, side_waits_on, log_rests_on, keys_on}
use Rattle.laws_clusters.proofs.StreamEvents.{happens_tables, happens_servers, happens_map}
use Rattle.laws_clusters.proofs.StreamFates.{event_stays, IsUnbuilt, GoesOn, stream_goes}

-- where a run goes on, nothing is taken back
wider_ahead : (name : StreamName) (w v : StreamSystem) (s t : MachineState Group) (sent : List Sent) → Ahead name w s v t → Wider name w v s t sent sent
wider_ahead name w v s t sent a = record {
  facts = a.onward.facts;
  shut = a.onward.shut;
  extents = λ index e at.
      ap (λ xs. slice_get xs index) a.begins.is ∙ get_same (extents_in w name) a.begins.rest index (slice_get_within (extents_in w name) index e at) ∙ at;
  known = (let long = ap length a.begins.is ∙ length-append (extents_in w name) a.begins.rest in omega (arith, long));
  purposes = λ q p e. e;
}

-- the streams of these ranges are built of those of the parent, and servers are told of it; what they had of all others stays
pub record IsBuiltRun (y z : ServerRun) (sides : ℕ → Bool) (parent : ℕ) : Type 0 where
  pub servers : z.servers ≡ y.servers
  pub history : (s range : ℕ) → z.history s range ≡ y.history s range
  pub notes : z.notes ≡ y.notes
  pub kept : (name : StreamName) → sides name.range ≡ false → z.story name ≡ y.story name
  pub built : (name : StreamName) → sides name.range ≡ true → y.story name ≡ [] → z.story name ≡ y.story (stream_named parent name.kind)
  pub shown : (range : ℕ) → (z.shown range ≡ y.shown range) ⊎ (z.shown range ≡ y.shown parent)
  pub answered : (range : ℕ) → (z.answered range ≡ y.answered range) ⊎ (z.answered range ≡ y.answered parent)

module _ (generation : ℕ → ℕ) (nodes target : ℕ) where
  -- steps below leave the story as it is
  same_story : (steps : List (MachineStep Group)) (earlier : List (machine.Move Group generation)) → AreMoves Group generation (map (λ x. Below x) steps ++ earlier) →
      (after_all Group generation (map (λ x. Below x) steps ++ earlier)).state.story ≡ (after_all Group generation earlier).state.story
  same_story [] earlier are = refl
  same_story (x ∷ steps) earlier are =
      layer_same generation (after_all Group generation (map (λ x. Below x) steps ++ earlier)).state x are.0.0 ∙ same_story steps earlier are.1

  module _ {base : Bases generation} (c : Cluster) (y : ServerRun) (x : Standing generation nodes target base c y) (event : Event) where
    abbrev w : StreamSystem
    w = here generation nodes target x.moves

    abbrev pub later : List Move
    later = x.moves ++ Happens event ∷ []

    abbrev v : StreamSystem
    v = here generation nodes target later

    v_is : v ≡ happens w event
    v_is = run_moves_push x.moves (Happens event) (start nodes target)

    pub has_here : (range : ℕ) → HasStreams c.stream_layer range → HasStreams w range
    has_here range has = subst (λ (u : StreamSystem). HasStreams u range) (sym x.leads) has

    -- the metadata of the first range
    pub one : Machine generation nodes target (metadata_of first_range) x.moves
    one = record {
      done = (x.machines first_range).m;
      are = (x.beside first_range).m_are;
      sent = (x.machines first_range).m_sent;
      below = there_below generation nodes target x.moves (metadata_of first_range) (x.machines first_range).m (x.machines first_range).m_sent ((x.beside first_range).metadata (omega arith))
          (has_here first_range x.first kinds.Metadata);
    }

    abbrev pub Unbuilt : StreamName → Type 0
    Unbuilt name = IsUnbuilt generation nodes target x.moves event one name

    stay : AllStay w v
    stay = event_stays generation nodes target x.moves event one

    -- what was there is there in the cluster after the event
    stay_there : AllStay c.stream_layer (happens c.stream_layer event)
    stay_there name there =
        subst (λ (u : StreamSystem). IsThere u name) (v_is ∙ ap (λ z. happens z event) x.leads) (stay name (subst (λ (u : StreamSystem). IsThere u name) (sym x.leads) there))

    -- the same streams are there
    pub there_in : (name : StreamName) → IsThere v name → IsThere (happens c.stream_layer event) name
    there_in name there = subst (λ (u : StreamSystem). IsThere u name) (v_is ∙ ap (λ z. happens z event) x.leads) there

    pub there_here : (name : StreamName) → IsThere c.stream_layer name → IsThere w name
    there_here name there = subst (λ (u : StreamSystem). IsThere u name) (sym x.leads) there

    -- ---- the machines go on

    abbrev m_at : ℕ → List (machine.Move Group generation)
    m_at n = (x.machines (suc n)).m

    abbrev l_at : ℕ → List (machine.Move Group generation)
    l_at n = (x.machines (suc n)).l

    pub hm : (n : ℕ) → GoesOn generation nodes target x.moves event one (metadata_of (suc n)) (m_at n) (x.machines (suc n)).m_sent
    hm n =
        stream_goes generation nodes target x.moves event one (metadata_of (suc n)) (omega arith) (λ k. cc) (m_at n) (x.beside (suc n)).m_are (x.machines (suc n)).m_sent ((x.beside (suc n)).metadata (omega arith))

    pub hl : (n : ℕ) → GoesOn generation nodes target x.moves event one (log_of (suc n)) (l_at n) (x.machines (suc n)).l_sent
    hl n =
        stream_goes generation nodes target x.moves event one (log_of (suc n)) (omega arith) (λ k. cc) (l_at n) (x.beside (suc n)).l_are (x.machines (suc n)).l_sent ((x.beside (suc n)).log (omega arith))

    abbrev pub gone_on : ℕ → Machines generation
    gone_on zero = x.machines zero
    gone_on (suc n) = record {
      m = map (λ z. Below z) (hm n).steps ++ m_at n;
      l = map (λ z. Below z) (hl n).steps ++ l_at n;
      m_sent = (x.machines (suc n)).m_sent;
      l_sent = (x.machines (suc n)).l_sent;
    }

    gone_grows : (range : ℕ) → HaveGrown generation base range (gone_on range)
    gone_grows zero = x.grows zero
    gone_grows (suc n) = (
      grew_on (base.metadata (suc n)) (map (λ z. Below z) (hm n).steps) (m_at n) (x.grows (suc n)).0,
      grew_on (base.logs (suc n)) (map (λ z. Below z) (hl n).steps) (l_at n) (x.grows (suc n)).1,
    )

    pub gone_beside : (range : ℕ) → Unbuilt (metadata_of range) → Unbuilt (log_of range) → AreBeside generation nodes target later range (gone_on range)
    gone_beside zero one_unbuilt two_unbuilt =
        let old : AreBeside generation nodes target x.moves zero (x.machines zero) = x.beside zero in
        record {
          m_are = old.m_are;
          l_are = old.l_are;
          apart = old.apart;
          metadata = λ counted. absurd (omega (arith, counted));
          log = λ counted. absurd (omega (arith, counted));
        }
    gone_beside (suc n) one_unbuilt two_unbuilt = record {
      m_are = (hm n).are;
      l_are = (hl n).are;
      apart = (x.beside (suc n)).apart;
      metadata = λ counted. (hm n).beside one_unbuilt;
      log = λ counted. (hl n).beside two_unbuilt;
    }

    gone_moves : (range : ℕ) → AreMoves Group generation (gone_on range).m × AreMoves Group generation (gone_on range).l
    gone_moves zero = ((x.beside zero).m_are, (x.beside zero).l_are)
    gone_moves (suc n) = ((hm n).are, (hl n).are)

    -- nothing is asked
    same_number : (range : ℕ) (q : ReqNo) → HasNumber generation (gone_on range) q → HasNumber generation (x.machines range) q
    same_number zero q has = has
    same_number (suc n) q has = has

    same_none : (range : ℕ) (q : ReqNo) → HasNone generation (x.machines range) q → HasNone generation (gone_on range) q
    same_none zero q none = none
    same_none (suc n) q none = none

    all_steady : (range j : ℕ) → IsSteady generation (x.machines range) (gone_on range) j
    all_steady zero j = (refl, refl)
    all_steady (suc n) j = ((hm n).phase j, (hl n).phase j)

    m_story : (range : ℕ) → (after_all Group generation (gone_on range).m).state.story ≡ (after_all Group generation (x.machines range).m).state.story
    m_story zero = refl
    m_story (suc n) = same_story (hm n).steps (m_at n) (hm n).are

    l_story : (range : ℕ) → (after_all Group generation (gone_on range).l).state.story ≡ (after_all Group generation (x.machines range).l).state.story
    l_story zero = refl
    l_story (suc n) = same_story (hl n).steps (l_at n) (hl n).are

    all_notes : (note : Note) → Contains w.notes note → Contains v.notes note
    all_notes note there = subst (λ (z : StreamSystem). Contains z.notes note) (sym v_is) ((moved_gains w (Happens event)).notes note there)

    -- nothing of a stream that is there is taken back
    longer_list : (name : StreamName) → IsThere w name → length (extents_in w name) ≤ length (extents_in v name)
    longer_list name (z, is) =
        let l : Longer z (stream_of v.catalog.stream name) = (lists_grow nodes target x.moves (Happens event ∷ [])).longer name z is in
        let before : extents_in w name ≡ whole z = ap extents_of is in
        let after : extents_in v name ≡ whole z ++ l.begins.rest = ap extents_of l.is ∙ l.begins.is in
        let long : length (extents_in v name) ≡ length (whole z) + length l.begins.rest = ap length after ∙ length-append (whole z) l.begins.rest in
        let short : length (extents_in w name) ≡ length (whole z) = ap length before in
        omega (arith, long, short)

    metadata_onward : (range : ℕ) → IsThere w (metadata_of range) →
        Wider (metadata_of range) w v (after_all Group generation (x.machines range).m).state (after_all Group generation (gone_on range).m).state (x.machines range).m_sent (gone_on range).m_sent
    metadata_onward zero there = record {
      facts = λ f m. m;
      shut = λ index y at. at;
      extents = still_at nodes target x.moves (Happens event ∷ []) (metadata_of zero);
      known = longer_list (metadata_of zero) there;
      purposes = λ q p e. e;
    }
    metadata_onward (suc n) there =
        wider_ahead (metadata_of (suc n)) w v (after_all Group generation (m_at n)).state (after_all Group generation (gone_on (suc n)).m).state (x.machines (suc n)).m_sent ((hm n).ahead there)

    all_onward : (range : ℕ) → 1 ≤ range → HasStreams w range → IsOnward generation nodes target range x.moves later (x.machines range) (gone_on range)
    all_onward zero counted has = absurd (omega (arith, counted))
    all_onward (suc n) counted has = record {
      metadata = metadata_onward (suc n) (has kinds.Metadata);
      log = wider_ahead (log_of (suc n)) w v (after_all Group generation (l_at n)).state (after_all Group generation (gone_on (suc n)).l).state (x.machines (suc n)).l_sent ((hl n).ahead (has kinds.Log));
      rows = still_at nodes target x.moves (Happens event ∷ []) (rows_of (suc n));
      notes = all_notes;
    }

    kept_notes : (note : Note) → Contains c.stream_layer.notes note → Contains (happens c.stream_layer event).notes note
    kept_notes note there = (moved_gains c.stream_layer (Happens event)).notes note there

    -- ---- what is built

    -- the machine of the parent is that of a side too, which has no numbers of its own
    abbrev pub copy_of : ℕ → Machines generation
    copy_of parent = record { m = (gone_on parent).m; l = (gone_on parent).l; m_sent = []; l_sent = [] }

    -- The event builds the streams of these ranges, as those of the parent stand; they were absent, and so nothing was done with them.
    pub record BuildsSides (sides : ℕ → Bool) (parent : ℕ) : Type 0 where
      pub metadata_unbuilt : (j : ℕ) → sides j ≡ false → Unbuilt (metadata_of j)
      pub log_unbuilt : (j : ℕ) → sides j ≡ false → Unbuilt (log_of j)
      pub absent : (j : ℕ) → sides j ≡ true → IsThere w (metadata_of j) → ⊥
      pub none_done : (j : ℕ) → sides j ≡ true → ((x.machines j).m ≡ []) × ((x.machines j).l ≡ [])
      pub metadata : (j : ℕ) → sides j ≡ true → IsStream generation nodes target later (metadata_of j) (copy_of parent).m []
      pub log : (j : ℕ) → sides j ≡ true → IsStream generation nodes target later (log_of j) (copy_of parent).l []
      pub same_list : (j : ℕ) → sides j ≡ true → extents_in v (metadata_of j) ≡ extents_in v (metadata_of parent)

    -- Where the metadata of one of the two ranges of a split that is made comes to be there, it is built of that of the range that is split.
    abbrev pub BringsSides : (ℕ → Bool) → ℕ → Type 0
    BringsSides sides parent =
        (s k : ℕ) (job : SplitJob) → SplitAt c.servers s k job → IsMaking job.phase → (side : SplitSide) → IsThere v (metadata_of (side_range job side)) →
        IsThere w (metadata_of (side_range job side)) ⊎ ((sides (side_range job side) ≡ true) × (parent ≡ k))

    module _ (sides : ℕ → Bool) (parent : ℕ) (b : BuildsSides sides parent) (z : ServerRun) (run : IsBuiltRun y z sides parent) where
      abbrev pub next_machines : ℕ → Machines generation
      next_machines j = if sides j then copy_of parent else gone_on j

      -- what is so of a side, and of each other range
      by_side : (P : ℕ → Machines generation → Type 0) → ((j : ℕ) → sides j ≡ true → P j (copy_of parent)) → ((j : ℕ) → sides j ≡ false → P j (gone_on j)) → (j : ℕ) → P j (next_machines j)
      by_side P built others j = go (sides j) refl
        where
          go : (t : Bool) → sides j ≡ t → P j (if t then copy_of parent else gone_on j)
          go true is = built j is
          go false is = others j is

      none_apart : Apart [] []
      none_apart = record { here = λ q p e alone. absurd cc; there = λ q p e alone. absurd cc }

      all_beside : (range : ℕ) → AreBeside generation nodes target later range (next_machines range)
      all_beside = by_side (λ j u. AreBeside generation nodes target later j u)
          (λ j is. record {
            m_are = (gone_moves parent).0;
            l_are = (gone_moves parent).1;
            apart = none_apart;
            metadata = λ counted. inl (b.metadata j is);
            log = λ counted. inl (b.log j is);
          })
          (λ j is. gone_beside j (b.metadata_unbuilt j is) (b.log_unbuilt j is))

      -- what is built has grown from nothing
      all_grow : (range : ℕ) → HaveGrown generation base range (next_machines range)
      all_grow = by_side (λ j u. HaveGrown generation base j u)
          (λ j is. (
            grew_none (base.metadata j) (copy_of parent).m (subst (GrewFrom (base.metadata j)) (b.none_done j is).0 (x.grows j).0),
            grew_none (base.logs j) (copy_of parent).l (subst (GrewFrom (base.logs j)) (b.none_done j is).1 (x.grows j).1),
          ))
          (λ j is. gone_grows j)

      -- ---- numbers

      no_number : (q : ReqNo) → HasNumber generation (copy_of parent) q → ⊥
      no_number q (p, inl e) = cc
      no_number q (p, inr e) = cc

      next_number : (range : ℕ) (q : ReqNo) → HasNumber generation (next_machines range) q → HasNumber generation (x.machines range) q
      next_number range q = by_side (λ j u. HasNumber generation u q → HasNumber generation (x.machines j) q) (λ j is has. absurd (no_number q has)) (λ j is has. same_number j q has) range

      next_none : (range : ℕ) (q : ReqNo) → HasNone generation (x.machines range) q → HasNone generation (next_machines range) q
      next_none range q = by_side (λ j u. HasNone generation (x.machines j) q → HasNone generation u q) (λ j is none. (refl, refl)) (λ j is none. same_none j q none) range

      -- servers send nothing, so all wait for what they waited for
      all_out : AllOut generation c.servers next_machines (happens c.stream_layer event).post
      all_out s range by q waits =
          let old : Out generation c.servers x.machines c.stream_layer.post s range by q = x.out s range by q waits in
          record {
            past = old.past;
            none = λ extents j. next_none j q (old.none extents j);
            asked = λ server to body at number. old.asked server to body (happens_servers c.stream_layer event server to body at) number;
            alone = old.alone;
          }

      -- ---- servers

      -- a range that is held is no side
      not_side : (s range : ℕ) (r : _) → HeldAt c.servers s range r → sides range ≡ false
      not_side s range r held = go (sides range) refl
        where
          go : (t : Bool) → sides range ≡ t → t ≡ false
          go false is = refl
          go true is = absurd (b.absent range is (has_here range (x.there s range r held) kinds.Metadata))

      -- nor is one that is there
      there_apart : (j : ℕ) → IsThere w (metadata_of j) → sides j ≡ false
      there_apart j there = go (sides j) refl
        where
          go : (t : Bool) → sides j ≡ t → t ≡ false
          go false is = refl
          go true is = absurd (b.absent j is there)

      held_next : (range : ℕ) → sides range ≡ false → next_machines range ≡ gone_on range
      held_next range is = ap (λ (t : Bool). if t then copy_of parent else gone_on range) is

      all_run : (s : ℕ) (cell : ServerCell) (st : ServerState) → entry_at c.servers s ≡ Some cell → cell.state ≡ Some st → Runs generation nodes target x.moves x.machines (y.history s) (x.incarnation s) s cell st →
          Runs generation nodes target later next_machines (z.history s) (x.incarnation s) s cell st
      all_run s cell st at up old = record {
        server = old.server;
        session = old.session;
        ascending = old.ascending;
        held = λ range r found.
            (let h : HeldAt c.servers s range r = record { cell = cell; state = st; there = at; up = up; found = found } in
            let job : Option SplitJob = split_of st.splits range in
            let k : IsHeld generation nodes target x.moves range (x.machines range) (y.history s range) (x.incarnation s range) job r = old.held range r found in
            subst (λ u. IsHeld generation nodes target later range u (z.history s range) (x.incarnation s range) job r) (sym (held_next range (not_side s range r h)))
            (held_on generation nodes target range x.moves later (x.machines range) (gone_on range) (y.history s range) (z.history s range) (run.history s range) (x.incarnation s range) (x.incarnation s range) refl job r
            (λ j mine held. holds_on generation nodes target range x.moves later (x.machines range) (gone_on range) (all_onward range k.counted (has_here range (x.there s range r h))) j (all_steady range j) (y.history s range) job r
            (λ q waits. same_none range q ((x.out s range OfRows q (r, h, waits)).none tt range))
            (λ split is q sealing. same_none range q ((x.out s range OfSeal q (split, record { cell = cell; state = st; there = at; up = up; found = is }, sealing)).none tt range)) held) k));
        splits_ascending = old.splits_ascending;
        split_held = old.split_held;
      }

      -- ---- the two ranges of each split

      -- one that is there goes on
      one_goes : (s i j : ℕ) → IsThere w (metadata_of j) → SideGoes generation nodes target x.moves later x.machines next_machines (y.history s) (z.history s) i j
      one_goes s i j there =
          let same : next_machines j ≡ gone_on j = held_next j (there_apart j there) in
          record {
            metadata = subst (λ (u : Machines generation). Wider (metadata_of j) w v (after_all Group generation (x.machines j).m).state (after_all Group generation u.m).state (x.machines j).m_sent u.m_sent) (sym same) (metadata_onward j there);
            steady = subst (λ u. IsSteady generation (x.machines j) u i) (sym same) (all_steady j i);
            append = ap (λ (h : RangeHistory). h.append kinds.Metadata) (run.history s j);
            streams = streams_stay w v stay j;
          }

      -- a client of the metadata of the range that is split rests as it did
      parent_rests : (k i : ℕ) → HasStreams w k → (client : ClientState) → RestsIs generation (metadata_of k) w i (m_side generation (x.machines k) i).stand (x.machines k).m_sent client →
          RestsIs generation (metadata_of k) v i (m_side generation (gone_on k) i).stand (gone_on k).m_sent client
      parent_rests k i has client b = record {
        told = told_on generation (metadata_of k) w v i (m_side generation (x.machines k) i).stand (m_side generation (gone_on k) i).stand (x.machines k).m_sent (gone_on k).m_sent (metadata_onward k (has kinds.Metadata)) client b.told;
        idle = b.idle;
        live = b.live;
        stands = (all_steady k i).0 ∙ b.stands;
      }

      -- one that is built waits as that of the range that is split rests
      abbrev Waiting : ℕ → RangeState → SplitJob → SplitSide → Machines generation → Type 0
      Waiting i r job side u = SideWaits generation v i (m_side generation u i) r job side × ((event : ℕ) → BeganAt event ((after_all Group generation u.l).phase i))

      built_waits : (k i : ℕ) (r : RangeState) (job : SplitJob) → HasStreams w k → (q : ReqNo) → job.phase ≡ phases.Build q →
          FollowsSplit generation k w i (m_side generation (x.machines k) i) (l_side generation (x.machines k) i) r job → parent ≡ k → (side : SplitSide) → sides (side_range job side) ≡ true →
          Waiting i r job side (next_machines (side_range job side))
      built_waits k i r job has q at f parent_is side is =
          subst (Waiting i r job side) (ap (λ (t : Bool). if t then copy_of parent else gone_on (side_range job side)) (sym is))
          (subst (λ n. Waiting i r job side (copy_of n)) (sym parent_is) (
            side_begins generation k v i (m_side generation (gone_on k) i).stand (gone_on k).m_sent r job side (b.same_list (side_range job side) is ∙ ap (λ n. extents_in v (metadata_of n)) parent_is) f.under
                (parent_rests k i has r.metadata stood.0.metadata),
            (λ event. subst (λ p. BeganAt event p) (sym ((all_steady k i).1 ∙ stood.0.paused.log.stands)) tt),
          ))
        where
          stood : PhaseStands generation k w i (m_side generation (x.machines k) i) (l_side generation (x.machines k) i) r job (phases.Build q)
          stood = subst (λ p. PhaseStands generation k w i (m_side generation (x.machines k) i) (l_side generation (x.machines k) i) r job p) at f.stands

      -- what the servers know of a range and its split
      held_split : (s k : ℕ) (r : RangeState) (job : SplitJob) → HeldAt c.servers s k r → SplitAt c.servers s k job → IsHeld generation nodes target x.moves k (x.machines k) (y.history s k) (x.incarnation s k) (Some job) r
      held_split s k r job held split =
          let cell_is : split.cell ≡ held.cell = (let both : Some split.cell ≡ Some held.cell = sym split.there ∙ held.there in cc) in
          let state_is : split.state ≡ held.state = (let both : Some split.state ≡ Some held.state = sym split.up ∙ ap (λ (u : ServerCell). u.state) cell_is ∙ held.up in cc) in
          let found : split_of held.state.splits k ≡ Some job = subst (λ (u : ServerState). split_of u.splits k ≡ Some job) state_is split.found in
          subst (λ o. IsHeld generation nodes target x.moves k (x.machines k) (y.history s k) (x.incarnation s k) o r) found ((x.servers s held.cell held.state held.there held.up).held k r held.found)

      module _ (news : BringsSides sides parent) (s k : ℕ) (r : RangeState) (job : SplitJob) (held : HeldAt c.servers s k r) (split : SplitAt c.servers s k job) (i : ℕ) (mine : x.incarnation s k ≡ Some i) where
        keys_next : (phase : SplitPhase) → job.phase ≡ phase → KeysStand generation nodes target x.moves x.machines (y.history s) i r job phase →
            KeysStand generation nodes target later next_machines (z.history s) i r job phase
        keys_next (phases.Build q) at stand = λ side there. elim (news s k job split (subst IsMaking (sym at) tt) side there) [
          | inl old ↦
              (let g = one_goes s i (side_range job side) old in
              let stood = stand side old in (
                side_waits_on generation nodes target x.moves later x.machines next_machines (y.history s) (z.history s) i job r r (same_keys r) side g stood.0,
                log_rests_on generation nodes target x.moves later x.machines next_machines (y.history s) (z.history s) i job r r (same_keys r) side g stood.1,
              ))
          | inr (is, parent_is) ↦
              (let h = held_split s k r job held split in
              let own : h.incarnation ≡ i = (let both : Some h.incarnation ≡ Some i = sym h.is ∙ mine in cc) in
              built_waits k i r job (has_here k (x.there s k r held)) q at
              (subst (λ n. FollowsSplit generation k w n (m_side generation (x.machines k) n) (l_side generation (x.machines k) n) r job) own h.holds.follows) parent_is side is)
        ]
        keys_next (phases.Keys side client) at stand =
            keys_on generation nodes target x.moves later x.machines next_machines (y.history s) (z.history s) i job r r (same_keys r) (phases.Keys side client)
            (λ making part there. (stand.1 part).streams kinds.Metadata) (λ making part there. one_goes s i (side_range job part) there) stand
        keys_next phase at stand = tt

      -- ---- stories

      m_first : (j : ℕ) → sides j ≡ true → y.story (stream_named j kinds.Metadata) ≡ []
      m_first j is = x.stories.metadata_is j ∙ ap (λ (d : List (machine.Move Group generation)). (after_all Group generation d).state.story) (b.none_done j is).0

      l_first : (j : ℕ) → sides j ≡ true → y.story (stream_named j kinds.Log) ≡ []
      l_first j is = x.stories.log_is j ∙ ap (λ (d : List (machine.Move Group generation)). (after_all Group generation d).state.story) (b.none_done j is).1

      -- a stream of the kind of another that is neither
      other_kind : (name : StreamName) → ((range : ℕ) → IsOther range name) → (n : ℕ) (range : ℕ) → IsOther range (stream_named n name.kind)
      other_kind name other n range = (
        (λ same. (other name.range).0 (ap (λ k. stream_named name.range k) (ap (λ (u : StreamName). u.kind) same))),
        (λ same. (other name.range).1 (ap (λ k. stream_named name.range k) (ap (λ (u : StreamName). u.kind) same))),
      )

      other_story : (name : StreamName) → ((range : ℕ) → IsOther range name) → z.story name ≡ []
      other_story name other = go (sides name.range) refl
        where
          go : (t : Bool) → sides name.range ≡ t → z.story name ≡ []
          go true is = run.built name is (x.stories.others name other) ∙ x.stories.others (stream_named parent name.kind) (other_kind name other parent)
          go false is = run.kept name is ∙ x.stories.others name other

      all_seen : SeesAll z (λ range. (after_all Group generation (next_machines range).m).state.story) (λ range. (after_all Group generation (next_machines range).l).state.story)
      all_seen = record {
        metadata_is = by_side (λ j u. z.story (stream_named j kinds.Metadata) ≡ (after_all Group generation u.m).state.story)
            (λ j is. run.built (stream_named j kinds.Metadata) is (m_first j is) ∙ x.stories.metadata_is parent ∙ sym (m_story parent))
            (λ j is. run.kept (stream_named j kinds.Metadata) is ∙ x.stories.metadata_is j ∙ sym (m_story j));
        log_is = by_side (λ j u. z.story (stream_named j kinds.Log) ≡ (after_all Group generation u.l).state.story)
            (λ j is. run.built (stream_named j kinds.Log) is (l_first j is) ∙ x.stories.log_is parent ∙ sym (l_story parent))
            (λ j is. run.kept (stream_named j kinds.Log) is ∙ x.stories.log_is j ∙ sym (l_story j));
        others = other_story;
      }

      all_say : (range : ℕ) → AllSay (z.story (stream_named range kinds.Metadata))
      all_say range = go (sides range) refl
        where
          go : (t : Bool) → sides range ≡ t → AllSay (z.story (stream_named range kinds.Metadata))
          go true is = subst (λ story. AllSay story) (sym (run.built (stream_named range kinds.Metadata) is (m_first range is))) (x.says parent)
          go false is = subst (λ story. AllSay story) (sym (run.kept (stream_named range kinds.Metadata) is)) (x.says range)

      all_observed : (range : ℕ) → AreObserved c.stream_layer.notes (z.shown range)
      all_observed range = elim (run.shown range) [
        | inl same ↦ subst (λ ps. AreObserved c.stream_layer.notes ps) (sym same) (x.observed range)
        | inr built ↦ subst (λ ps. AreObserved c.stream_layer.notes ps) (sym built) (x.observed parent)
      ]

      all_acked : (range : ℕ) → AreObserved c.stream_layer.notes (z.answered range)
      all_acked range = elim (run.answered range) [
        | inl same ↦ subst (λ ps. AreObserved c.stream_layer.notes ps) (sym same) (x.acked range)
        | inr built ↦ subst (λ ps. AreObserved c.stream_layer.notes ps) (sym built) (x.acked parent)
      ]

      -- the metadata and the log of a side are those of the parent
      pub sides_share : sides parent ≡ false → (j : ℕ) → sides j ≡ true → ((next_machines j).m ≡ (next_machines parent).m) × ((next_machines j).l ≡ (next_machines parent).l)
      sides_share none j is = (
        ap (λ (t : Bool). (if t then copy_of parent else gone_on j).m) is ∙ sym (ap (λ (t : Bool). (if t then copy_of parent else gone_on parent).m) none),
        ap (λ (t : Bool). (if t then copy_of parent else gone_on j).l) is ∙ sym (ap (λ (t : Bool). (if t then copy_of parent else gone_on parent).l) none),
      )

      -- an event of the stream layer
      pub event_stands : BringsSides sides parent → Standing generation nodes target base (record c { stream_layer = happens c.stream_layer event }) z
      event_stands news = record {
        moves = later;
        leads = v_is ∙ ap (λ u. happens u event) x.leads;
        machines = next_machines;
        beside = all_beside;
        grows = all_grow;
        distinct = λ first other apart q has. next_none other q (x.distinct first other apart q (next_number first q has));
        past = λ range q has. x.past range q (next_number range q has);
        numbers = λ server to body there. x.numbers server to body (happens_servers c.stream_layer event server to body there);
        out = all_out;
        from_map = λ to body there. word_stays c.stream_layer (happens c.stream_layer event) stay_there body (x.from_map to body (happens_map c.stream_layer event to body there));
        counted = x.counted;
        have = all_stay c.stream_layer (happens c.stream_layer event) stay_there c.map.ranges x.have;
        first = streams_stay c.stream_layer (happens c.stream_layer event) stay_there first_range x.first;
        there = λ s range r held. streams_stay c.stream_layer (happens c.stream_layer event) stay_there range (x.there s range r held);
        lists = λ server to list q there m among. split_stays c.stream_layer (happens c.stream_layer event) stay_there list (x.lists server to list q (happens_servers c.stream_layer event server to _ there) m among);
        extends = λ server to stream fence last pick q there. x.extends server to stream fence last pick q (happens_servers c.stream_layer event server to _ there);
        incarnation = x.incarnation;
        bound = x.bound;
        own = x.own;
        below = x.below;
        idle = λ i le. by_side (λ j u. IsIdle generation u i) (λ j is. idle_on i le parent) (λ j is. idle_on i le j);
        cells = x.cells ∙ sym run.servers;
        servers = λ s cell st at up. all_run s cell st at up (x.servers s cell st at up);
        aside = x.aside;
        keys = λ s range r job held split firm i mine. keys_next news s range r job held split i mine job.phase refl (x.keys s range r job held split firm i mine);
        stories = all_seen;
        says = all_say;
        observed = λ range. observed_on c.stream_layer.notes (happens c.stream_layer event).notes kept_notes (z.shown range) (all_observed range);
        acked = λ range. observed_on c.stream_layer.notes (happens c.stream_layer event).notes kept_notes (z.answered range) (all_acked range);
        told = λ texts all.
            subst (λ l. AreSeenAs texts l (server_notes (happens c.stream_layer event).notes)) (sym run.notes)
            (subst (λ ns. AreSeenAs texts y.notes ns) (sym (ap of_servers (happens_tables c.stream_layer event)))
            (x.told texts (tells_fewer texts c.stream_layer.notes (happens c.stream_layer event).notes kept_notes all)));
      }
        where
          idle_on : (i : ℕ) → x.bound ≤ i → (range : ℕ) → IsIdle generation (gone_on range) i
          idle_on i le range =
              let old = x.idle i le range in
              let steady = all_steady range i in
              (steady.0 ∙ old.0, steady.1 ∙ old.1)

      pub event_machines : (news : BringsSides sides parent) (range : ℕ) → (event_stands news).machines range ≡ next_machines range
      unfolding event_stands
      event_machines news range = refl
