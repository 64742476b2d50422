-- The streams of a range go on with what the range does at a server.
use Rattle.std.proofs.Common.{◌≡◌, ℕ, ◌≤◌, List, [], ◌∷◌, ◌++◌, length, Option, Some, None, slice_get, Contains, refl, sym, ap, subst, arith, inl}
use Rattle.wire.specs.declared.actor.ReqNo.{ReqNo}
use Rattle.wire.specs.declared.actor.ReqNo.TheVariants as requests
use Rattle.wire.specs.declared.note.Note.{Note}
use Rattle.wire.specs.declared.packet.Packet.{Packet}
use Rattle.wire.specs.declared.streams.StreamKind.TheVariants as kinds
use Rattle.wire.specs.declared.streams.StreamName.{StreamName}
use Rattle.replica.specs.Groups.{Group}
use Rattle.streams.specs.Streams.{stream_of}
use Rattle.model_streams.specs.Manager.{Catalog}
use Rattle.model_streams.specs.StreamSystem.{StreamSystem, Move}
use Rattle.model_partition.specs.declared.server_context.ServerContext.{ServerContext}
use Rattle.model_histories.specs.StreamMachine as extents
use Rattle.model_partition.specs.declared.split_job.SplitJob.{SplitJob}
use Rattle.model_partition.specs.Range.{RangeState, RangeOutcome}
use Rattle.model_histories.specs.ServerTurns.{Turn, Whole, after_all}
use Rattle.model_histories.specs.ServerTurns as machine
use Rattle.laws_stream_machine.specs.Refinement.{Purpose, Sent, purpose_of, IsAt, IsAsked, extents_of}
use Rattle.laws_ranges.specs.Serves.{Stand, Side, after_turns, metadata_of, log_of, rows_of, Wider, BothGo}
use Rattle.laws_ranges.specs.SplitJobs.{AskedOfSplit}
use Rattle.laws_ranges.proofs.TurnsAsMoves.{stand_of, moves_of, stands_after, others_stand, are_moves}
use Rattle.laws_ranges.proofs.MachineSteps.{wider_turns}
use Rattle.laws_stream_machine.proofs.LowerLayer.{Below}
use Rattle.laws_stream_machine.proofs.ServerRequests.{Unused}
use Rattle.laws_clusters.proofs.StreamMachines.{AllAskedOf, Further, below_turns, below_adds}
use Rattle.laws_clusters.proofs.RangeStreams.{HasStreams}
use Rattle.laws_clusters.proofs.Invariant.{Machines, here, m_side, l_side, AreBeside}

-- an incarnation stands where it stood
abbrev pub IsSteady : (generation : ℕ → ℕ) → Machines generation → Machines generation → ℕ → Type 0
IsSteady generation x z j =
    ((after_all Group generation z.m).phase j ≡ (after_all Group generation x.m).phase j) × ((after_all Group generation z.l).phase j ≡ (after_all Group generation x.l).phase j)

module _ (generation : ℕ → ℕ) (nodes target : ℕ) where
  -- nothing of the streams of a range is taken back
  pub record IsOnward (range : ℕ) (moves later : List Move) (x z : Machines generation) : Type 0 where
    pub metadata : Wider (metadata_of range) (here generation nodes target moves) (here generation nodes target later) (after_all Group generation x.m).state (after_all Group generation z.m).state x.m_sent z.m_sent
    pub log : Wider (log_of range) (here generation nodes target moves) (here generation nodes target later) (after_all Group generation x.l).state (after_all Group generation z.l).state x.l_sent z.l_sent
    pub rows : (index e : ℕ) → IsAt (here generation nodes target moves) (rows_of range) index e → IsAt (here generation nodes target later) (rows_of range) index e
    pub notes : (note : Note) → Contains (here generation nodes target moves).notes note → Contains (here generation nodes target later).notes note

  -- the same catalog has the same lists
  pub same_at : (v w : StreamSystem) (name : StreamName) → v.catalog ≡ w.catalog → (index e : ℕ) → IsAt w name index e → IsAt v name index e
  same_at v w name same index e at = subst (λ (b : Catalog). slice_get (extents_of (stream_of b.stream name)) index ≡ Some e) (sym same) at

  -- turns of an incarnation and one more number, in a stream system with the same catalog
  wider_on : (name : StreamName) (v w : StreamSystem) → v.catalog ≡ w.catalog → (earlier : List (machine.Move Group generation)) (i : ℕ) (ts : List (Turn Group)) (sent more : List Sent) →
      ((q : ReqNo) (p : Purpose) → purpose_of sent q ≡ Some p → purpose_of more q ≡ Some p) →
      Wider name w v (after_all Group generation earlier).state (after_all Group generation (moves_of generation i ts ++ earlier)).state sent more
  wider_on name v w same earlier i ts sent more keeps =
      let x : Stand = stand_of generation (after_all Group generation earlier) i in
      let there : stand_of generation (after_all Group generation (moves_of generation i ts ++ earlier)) i ≡ after_turns generation i x ts = stands_after generation i ts earlier in
      let g = wider_turns generation i name w x ts [] requests.NoRequest None refl in
      record {
        facts = λ f m. subst (λ (y : Stand). extents.In f y.state.facts) (sym there) (g.facts f m);
        shut = λ index y at. subst (λ (z : Stand). extents.shut_at index z.state.core.shut ≡ Some y) (sym there) (g.shut index y at);
        extents = same_at v w name same;
        known = subst (λ (b : Catalog). length (extents_of (stream_of w.catalog.stream name)) ≤ length (extents_of (stream_of b.stream name))) (sym same) (omega arith);
        purposes = keeps;
      }

  module _ (moves : List Move) (range : ℕ) (x : Machines generation) (i : ℕ) (d : ServerContext) (o : RangeOutcome) (Then : Option RangeState → Side → Side → Type 0)
      (g : BothGo generation range (here generation nodes target moves) i Then (m_side generation x i) (l_side generation x i) d o) where
    abbrev w : StreamSystem
    w = here generation nodes target moves

    -- where the incarnation stands after the rule
    abbrev pub m_after : Side
    m_after = record { stand = after_turns generation i (stand_of generation (after_all Group generation x.m) i) g.metadata_turns; sent = g.metadata_sent }

    abbrev pub l_after : Side
    l_after = record { stand = after_turns generation i (stand_of generation (after_all Group generation x.l) i) g.log_turns; sent = g.log_sent }

    -- the machines after it
    abbrev pub machines_after : Machines generation
    machines_after = record { m = moves_of generation i g.metadata_turns ++ x.m; l = moves_of generation i g.log_turns ++ x.l; m_sent = g.metadata_sent; l_sent = g.log_sent }

    pub m_side_is : m_side generation machines_after i ≡ m_after
    m_side_is = ap (λ (s : Stand). record { stand = s; sent = g.metadata_sent }) (stands_after generation i g.metadata_turns x.m)

    pub l_side_is : l_side generation machines_after i ≡ l_after
    l_side_is = ap (λ (s : Stand). record { stand = s; sent = g.log_sent }) (stands_after generation i g.log_turns x.l)

    -- other incarnations stand where they stood
    pub others_steady : (j : ℕ) → (j ≡ i → ⊥) → IsSteady generation x machines_after j
    others_steady j other = (others_stand generation i j g.metadata_turns x.m other, others_stand generation i j g.log_turns x.l other)

    -- nothing is taken back
    pub goes_onward : (later : List Move) → (here generation nodes target later).catalog ≡ w.catalog → ((note : Note) → Contains w.notes note → Contains (here generation nodes target later).notes note) →
        IsOnward range moves later x machines_after
    goes_onward later same notes = record {
      metadata = wider_on (metadata_of range) (here generation nodes target later) w same x.m i g.metadata_turns x.m_sent g.metadata_sent g.metadata_keeps;
      log = wider_on (log_of range) (here generation nodes target later) w same x.l i g.log_turns x.l_sent g.log_sent g.log_keeps;
      rows = same_at (here generation nodes target later) w (rows_of range) same;
      notes = notes;
    }

    asked_of_metadata : (after : Option RangeState) (job : Option SplitJob) (ps : List Packet) → AskedOfSplit generation range w i after job m_after l_after ps → AllAskedOf generation nodes target (metadata_of range) w (after_all Group generation machines_after.m) g.metadata_sent ps
    asked_of_metadata after job [] a = tt
    asked_of_metadata after job (p ∷ ps) a = (subst (λ (s : Stand). IsAsked generation (metadata_of range) w s.state g.metadata_sent p.body) (sym (stands_after generation i g.metadata_turns x.m)) a.0.0, asked_of_metadata after job ps a.1)

    asked_of_log : (after : Option RangeState) (job : Option SplitJob) (ps : List Packet) → AskedOfSplit generation range w i after job m_after l_after ps → AllAskedOf generation nodes target (log_of range) w (after_all Group generation machines_after.l) g.log_sent ps
    asked_of_log after job [] a = tt
    asked_of_log after job (p ∷ ps) a = (subst (λ (s : Stand). IsAsked generation (log_of range) w s.state g.log_sent p.body) (sym (stands_after generation i g.log_turns x.l)) a.0.1, asked_of_log after job ps a.1)

    -- the machines after it are the streams, where these packets were sent
    pub goes_on : AreBeside generation nodes target moves range x → Below generation (metadata_of range) nodes target moves (after_all Group generation x.m) x.m_sent →
        Below generation (log_of range) nodes target moves (after_all Group generation x.l) x.l_sent → ((k : ℕ) → d.count ≤ k → Unused w (requests.Server d.server d.session k)) →
        (after : Option RangeState) (job : Option SplitJob) (ps : List Packet) (v : StreamSystem) → AskedOfSplit generation range w i after job m_after l_after ps → (told : Further generation nodes target moves v ps) →
        HasStreams (here generation nodes target (moves ++ told.after)) range → AreBeside generation nodes target (moves ++ told.after) range machines_after
    goes_on z metadata log unused after job ps v asked told has =
        let a = g.metadata_adds in
        let b = g.log_adds in
        let q : ReqNo = requests.Server d.server d.session a.number in
        let r : ReqNo = requests.Server d.server d.session b.number in
        record {
          m_are = are_moves generation i g.metadata_turns x.m z.m_are g.metadata_allowed;
          l_are = are_moves generation i g.log_turns x.l z.l_are g.log_allowed;
          apart = g.sent_by.apart;
          metadata = λ counted.
              inl (record {
                there = has kinds.Metadata;
                below = told.below (metadata_of range) (after_all Group generation machines_after.m) g.metadata_sent (asked_of_metadata after job ps asked)
                    (subst (λ l. Below generation (metadata_of range) nodes target moves (after_all Group generation machines_after.m) l) (sym a.is)
                    (below_adds generation nodes target (metadata_of range) moves (after_all Group generation machines_after.m) x.m_sent q a.purpose (unused a.number a.from)
                    (below_turns generation nodes target (metadata_of range) moves i g.metadata_turns x.m x.m_sent metadata)));
              });
          log = λ counted.
              inl (record {
                there = has kinds.Log;
                below = told.below (log_of range) (after_all Group generation machines_after.l) g.log_sent (asked_of_log after job ps asked)
                    (subst (λ l. Below generation (log_of range) nodes target moves (after_all Group generation machines_after.l) l) (sym b.is)
                    (below_adds generation nodes target (log_of range) moves (after_all Group generation machines_after.l) x.l_sent r b.purpose (unused b.number b.from)
                    (below_turns generation nodes target (log_of range) moves i g.log_turns x.l x.l_sent log)));
              });
        }
