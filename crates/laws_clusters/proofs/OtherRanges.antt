-- What a range does at a server leaves all other ranges where they stood, and itself where its rule says.
use Rattle.std.proofs.Common.{◌≡◌, ℕ, ◌≤◌, true, List, [], ◌∷◌, ◌++◌, length, Option, Some, Contains, refl, sym, ◌∙◌, subst, arith}
use Rattle.std.proofs.lemmas.List.Elements.{Contains-append_left}
use Rattle.wire.specs.declared.actor.ReqNo.{ReqNo}
use Rattle.wire.specs.declared.note.Note.{Note}
use Rattle.wire.specs.declared.streams.StreamKind.TheVariants as kinds
use Rattle.wire.specs.declared.streams.StreamName.{StreamName}
use Rattle.replica.specs.Groups.{Group}
use Rattle.streams.specs.Streams.{stream_of}
use Rattle.client.specs.Client.{awaits}
use Rattle.laws_clusters.proofs.RowPurposes.{rows_aside}
use Rattle.model_streams.specs.Manager.{Catalog}
use Rattle.model_streams.specs.StreamSystem.{StreamSystem, Move}
use Rattle.model_partition.specs.declared.server_context.ServerContext.{ServerContext}
use Rattle.model_partition.specs.declared.table_note.TableNote.{TableNote}
use Rattle.model_partition.specs.declared.split_job.SplitJob.{SplitJob}
use Rattle.model_partition.specs.Range.{RangeState, RangeOutcome}
use Rattle.model_histories.specs.ServerRun.{RangeHistory}
use Rattle.model_partition.specs.Servers.{told, noted}
use Rattle.model_histories.specs.ServerTurns.{after_all}
use Rattle.model_histories.specs.StreamMachine as extents
use Rattle.laws_stream_machine.specs.Refinement.{Sent, extents_of}
use Rattle.laws_ranges.specs.Seen.{BeganAt}
use Rattle.laws_ranges.specs.Serves.{Side, metadata_of, log_of, rows_of, Wider, BothGo}
use Rattle.laws_ranges.specs.SplitJobs.{waits_seal, FollowsBoth}
use Rattle.laws_ranges.proofs.SplitsKept.{both_row_data, seal_aside, follows_both_on}
use Rattle.laws_ranges.proofs.TurnsAsMoves.{stand_of}
use Rattle.laws_log_reads.specs.Reads.{HasRead}
use Rattle.laws_log_reads.proofs.MachineSteps.{both_wider, left_turned}
use Rattle.laws_log_reads.proofs.MoreKnown.{has_read_on}
use Rattle.laws_clusters.proofs.Invariant.{Machines, HasNone, here, m_side, l_side, Holds, IsHeld}
use Rattle.laws_clusters.proofs.RangeSteps.{IsSteady, IsOnward, m_after, l_after, machines_after, m_side_is, l_side_is, same_at}

-- observations stay
pub noted_keeps : (seen : List Note) (ns : List TableNote) (x : Note) → Contains seen x → Contains (noted seen ns) x
noted_keeps seen [] x there = there
noted_keeps seen (n ∷ ns) x there = noted_keeps (seen ++ told seen n ∷ []) ns x (Contains-append_left seen (told seen n ∷ []) x there)

module _ (generation : ℕ → ℕ) (nodes target : ℕ) where
  -- the same machine in a stream system with the same catalog
  pub wider_same : (name : StreamName) (w v : StreamSystem) (s : extents.MachineState Group) (sent : List Sent) → v.catalog ≡ w.catalog → Wider name w v s s sent sent
  wider_same name w v s sent same = record {
    facts = λ f m. m;
    shut = λ index y at. at;
    extents = same_at generation nodes target v w name same;
    known = subst (λ (b : Catalog). length (extents_of (stream_of w.catalog.stream name)) ≤ length (extents_of (stream_of b.stream name))) (sym same) (omega arith);
    purposes = λ q p e. e;
  }

  -- machines that stay, in a stream system with the same catalog
  pub onward_same : (range : ℕ) (moves later : List Move) (x : Machines generation) → (here generation nodes target later).catalog ≡ (here generation nodes target moves).catalog →
      ((note : Note) → Contains (here generation nodes target moves).notes note → Contains (here generation nodes target later).notes note) → IsOnward generation nodes target range moves later x x
  onward_same range moves later x same notes = record {
    metadata = wider_same (metadata_of range) (here generation nodes target moves) (here generation nodes target later) (after_all Group generation x.m).state x.m_sent same;
    log = wider_same (log_of range) (here generation nodes target moves) (here generation nodes target later) (after_all Group generation x.l).state x.l_sent same;
    rows = same_at generation nodes target (here generation nodes target later) (here generation nodes target moves) (rows_of range) same;
    notes = notes;
  }

  module _ (range : ℕ) (moves later : List Move) (x z : Machines generation) where
    -- what stays of a range whose incarnation stands where it stood
    pub holds_on : IsOnward generation nodes target range moves later x z → (j : ℕ) → IsSteady generation x z j → (h : RangeHistory) (job : Option SplitJob) (r : RangeState) →
        ((q : ReqNo) → awaits r.rows.job q ≡ true → HasNone generation z q) → ((k : SplitJob) → job ≡ Some k → (q : ReqNo) → waits_seal k.phase q ≡ true → HasNone generation z q) →
        Holds generation nodes target moves range x h j job r → Holds generation nodes target later range z h j job r
    holds_on on j steady h job r aside split_aside b =
        let w : StreamSystem = here generation nodes target moves in
        let v : StreamSystem = here generation nodes target later in
        record {
          follows = follows_both_on generation range w v j (m_side generation x j) (m_side generation z j) (l_side generation x j) (l_side generation z j) on.metadata steady.0 on.log steady.1 on.rows r aside job split_aside b.follows;
          read = has_read_on range w v j (after_all Group generation x.m).state (after_all Group generation z.m).state (after_all Group generation x.l).state (after_all Group generation z.l).state
              (both_wider range w v (after_all Group generation x.m).state (after_all Group generation z.m).state (after_all Group generation x.l).state (after_all Group generation z.l).state
              x.m_sent z.m_sent x.l_sent z.l_sent on.metadata on.log on.notes) h r b.read;
          record_append = subst (λ p. BeganAt (h.append kinds.Metadata) p) (sym steady.0) b.record_append;
          append = subst (λ p. BeganAt (h.append kinds.Log) p) (sym steady.1) b.append;
        }

    -- the same of what is kept of it
    pub held_on : (h k : RangeHistory) → k ≡ h → (o p : Option ℕ) → p ≡ o → (job : Option SplitJob) (r : RangeState) → ((j : ℕ) → o ≡ Some j → Holds generation nodes target moves range x h j job r → Holds generation nodes target later range z h j job r) →
        IsHeld generation nodes target moves range x h o job r → IsHeld generation nodes target later range z k p job r
    held_on h k history o p same job r on b = record {
      counted = b.counted;
      incarnation = b.incarnation;
      is = same ∙ b.is;
      holds = subst (λ y. Holds generation nodes target later range z y b.incarnation job r) (sym history) (on b.incarnation b.is b.holds);
    }

  -- ---- the incarnation itself

  module _ (moves : List Move) (range : ℕ) (x : Machines generation) (i : ℕ) (d : ServerContext) (o : RangeOutcome) (Then : Option RangeState → Side → Side → Type 0) (job : Option SplitJob)
      (g : BothGo generation range (here generation nodes target moves) i Then (m_side generation x i) (l_side generation x i) d o) (later : List Move)
      (same_catalog : (here generation nodes target later).catalog ≡ (here generation nodes target moves).catalog)
      (all_notes : (note : Note) → Contains (here generation nodes target moves).notes note → Contains (here generation nodes target later).notes note)
      (h : RangeHistory) (record_append : BeganAt (h.append kinds.Metadata) (m_after generation nodes target moves range x i d o Then g).stand.phase)
      (append : BeganAt (h.append kinds.Log) (l_after generation nodes target moves range x i d o Then g).stand.phase) where
    abbrev w : StreamSystem
    w = here generation nodes target moves

    abbrev v : StreamSystem
    v = here generation nodes target later

    abbrev after : Machines generation
    after = machines_after generation nodes target moves range x i d o Then g

    -- what the rule leaves of the range
    pub own_holds : (r : RangeState) → FollowsBoth generation range w i job r (m_after generation nodes target moves range x i d o Then g) (l_after generation nodes target moves range x i d o Then g) →
        HasRead range w i (after_all Group generation x.m).state (after_all Group generation x.l).state h r → Holds generation nodes target later range after h i job r
    own_holds r f read =
        let a : Side = m_after generation nodes target moves range x i d o Then g in
        let b : Side = l_after generation nodes target moves range x i d o Then g in
        let follows : FollowsBoth generation range v i job r a b =
        follows_both_on generation range w v i a a b b (wider_same (metadata_of range) w v a.stand.state a.sent same_catalog) refl (wider_same (log_of range) w v b.stand.state b.sent same_catalog) refl
        (same_at generation nodes target v w (rows_of range) same_catalog) r (rows_aside range w a.sent b.sent r.rows.job (both_row_data generation range w i a b r job f).job) job
        (λ k is q at. seal_aside generation range w i a b r k q at (subst (λ z. FollowsBoth generation range w i z r a b) is f)) f in
        let turned : HasRead range w i a.stand.state b.stand.state h r =
        left_turned generation range w i (stand_of generation (after_all Group generation x.m) i) (stand_of generation (after_all Group generation x.l) i) g.metadata_turns g.log_turns h (Some r) read in
        let now : HasRead range v i a.stand.state b.stand.state h r =
        has_read_on range w v i a.stand.state a.stand.state b.stand.state b.stand.state
        (both_wider range w v a.stand.state a.stand.state b.stand.state b.stand.state a.sent a.sent b.sent b.sent (wider_same (metadata_of range) w v a.stand.state a.sent same_catalog)
        (wider_same (log_of range) w v b.stand.state b.sent same_catalog) all_notes) h r turned in
        record {
          follows = subst (λ (z : Side). FollowsBoth generation range v i job r z (l_side generation after i)) (sym (m_side_is generation nodes target moves range x i d o Then g))
              (subst (λ (z : Side). FollowsBoth generation range v i job r a z) (sym (l_side_is generation nodes target moves range x i d o Then g)) follows);
          read = subst (λ (z : Side). HasRead range v i z.stand.state (after_all Group generation after.l).state h r) (sym (m_side_is generation nodes target moves range x i d o Then g))
              (subst (λ (z : Side). HasRead range v i a.stand.state z.stand.state h r) (sym (l_side_is generation nodes target moves range x i d o Then g)) now);
          record_append = subst (λ (z : Side). BeganAt (h.append kinds.Metadata) z.stand.phase) (sym (m_side_is generation nodes target moves range x i d o Then g)) record_append;
          append = subst (λ (z : Side). BeganAt (h.append kinds.Log) z.stand.phase) (sym (l_side_is generation nodes target moves range x i d o Then g)) append;
        }
