-- What a range that is split, and its split, have to do with an incarnation is kept while others go on.
use Rattle.std.proofs.Common.{◌≡◌, true, ℕ, List, Option, Some, None, refl, ap, ◌∙◌, subst}
use Rattle.wire.specs.declared.actor.ReqNo.{ReqNo}
use Rattle.wire.specs.declared.streams.StreamKind.{StreamKind}
use Rattle.wire.specs.declared.streams.StreamKind.TheVariants as kinds
use Rattle.wire.specs.declared.streams.StreamName.{StreamName}
use Rattle.memtable.specs.declared.cell.Place.{Place}
use Rattle.client.specs.Client.{ClientState, awaits}
use Rattle.model_streams.specs.StreamSystem.{StreamSystem}
use Rattle.model_partition.specs.declared.split_job.SplitJob.{SplitJob}
use Rattle.model_partition.specs.declared.split_job.SplitPhase.{SplitPhase}
use Rattle.model_partition.specs.declared.split_job.SplitPhase.TheVariants as phases
use Rattle.model_partition.specs.declared.waiting.WaitingGet.{WaitingGet}
use Rattle.model_partition.specs.Range.{RangeState}
use Rattle.laws_stream_machine.specs.Refinement.{Sent, IsAt}
use Rattle.laws_ranges.specs.Serves.{Stand, Side, Wider, metadata_of, log_of, rows_of, IsAside, RowsStand}
use Rattle.laws_ranges.specs.SplitJobs.{RestsIs, PausedIs, RecordsSplit, SealStands, RecordedIs, PhaseStands, FollowsBoth, waits_seal}
use Rattle.laws_ranges.proofs.BothStreams.{follows_same}
use Rattle.laws_stream_machine.proofs.ServerRequests.{same_request}
use Rattle.laws_ranges.proofs.MachineSteps.{request_same}
use Rattle.laws_ranges.proofs.MoreKnown.{told_on, serving_on, rows_on, follows_on}

-- a number that the split waits under for row data is that of its seal
pub seal_waited : (phase : SplitPhase) (q : ReqNo) → waits_seal phase q ≡ true → phase ≡ phases.Seal kinds.RowData q
seal_waited (phases.Begin v) q waits = absurd cc
seal_waited phases.Checkpoint q waits = absurd cc
seal_waited phases.Queue q waits = absurd cc
seal_waited phases.Record q waits = absurd cc
seal_waited (phases.Seal kinds.Metadata v) q waits = absurd cc
seal_waited (phases.Seal kinds.Log v) q waits = absurd cc
seal_waited (phases.Seal kinds.RowData v) q waits = ap (phases.Seal kinds.RowData) (same_request v q waits)
seal_waited (phases.Seal kinds.BlobData v) q waits = absurd cc
seal_waited (phases.Build v) q waits = absurd cc
seal_waited (phases.Keys side c) q waits = absurd cc
seal_waited (phases.Complete v) q waits = absurd cc

-- a client that rests does so however its stream goes on
pub rests_wider : (generation : ℕ → ℕ) (name : StreamName) (w v : StreamSystem) (i : ℕ) (x y : Stand) (sent more : List Sent) → Wider name w v x.state y.state sent more → y.phase ≡ x.phase → (c : ClientState) →
    RestsIs generation name w i x sent c → RestsIs generation name v i y more c
rests_wider generation name w v i x y sent more g same c b = record { told = told_on generation name w v i x y sent more g c b.told; idle = b.idle; live = b.live; stands = same ∙ b.stands }

module _ (generation : ℕ → ℕ) (range : ℕ) (w v : StreamSystem) (i : ℕ) (m n l k : Side)
    (gm : Wider (metadata_of range) w v m.stand.state n.stand.state m.sent n.sent) (sm : n.stand.phase ≡ m.stand.phase)
    (gl : Wider (log_of range) w v l.stand.state k.stand.state l.sent k.sent) (sl : k.stand.phase ≡ l.stand.phase)
    (more : (index e : ℕ) → IsAt w (rows_of range) index e → IsAt v (rows_of range) index e) (r : RangeState) (aside : (q : ReqNo) → awaits r.rows.job q ≡ true → IsAside n.sent k.sent q) where
  paused_on : PausedIs generation range w i m l r → PausedIs generation range v i n k r
  paused_on b = record {
    range_is = b.range_is;
    under = b.under;
    stage = b.stage;
    phase = b.phase;
    pause = b.pause;
    control = b.control;
    out = b.out;
    log = rests_wider generation (log_of range) w v i l.stand k.stand l.sent k.sent gl sl r.log b.log;
    rows = rows_on generation range w v i m n l k gm sm gl sl more r.rows aside b.rows;
    blob = b.blob;
  }

  recorded_on : RecordedIs generation range w i m l r → RecordedIs generation range v i n k r
  recorded_on b = record { paused = paused_on b.paused; metadata = rests_wider generation (metadata_of range) w v i m.stand n.stand m.sent n.sent gm sm r.metadata b.metadata }

  module _ (job : SplitJob) (seal_aside : (q : ReqNo) → waits_seal job.phase q ≡ true → IsAside n.sent k.sent q) where
    -- a number that the split waits under
    own_aside : (phase : SplitPhase) → job.phase ≡ phase → (q : ReqNo) → waits_seal phase q ≡ true → IsAside n.sent k.sent q
    own_aside phase at q waits = seal_aside q (ap (λ z. waits_seal z q) at ∙ waits)

    records_on : RecordsSplit generation range w i m r job → RecordsSplit generation range v i n r job
    records_on b = record { client = serving_on generation (metadata_of range) w v i m.stand n.stand m.sent n.sent gm sm r.metadata b.client; group = b.group }

    seal_on : (kind : StreamKind) (q : ReqNo) → job.phase ≡ phases.Seal kind q → SealStands generation range w i m l r kind q → SealStands generation range v i n k r kind q
    seal_on kinds.Metadata q at b = record { index = b.index; index_is = b.index_is; for = gm.purposes q _ b.for }
    seal_on kinds.Log q at b = (record { index = b.0.index; index_is = b.0.index_is; for = gl.purposes q _ b.0.for }, b.1)
    seal_on kinds.RowData q at b = (own_aside (phases.Seal kinds.RowData q) at q (request_same q), b.1)
    seal_on kinds.BlobData q at b = b

    phase_on : (phase : SplitPhase) → job.phase ≡ phase → PhaseStands generation range w i m l r job phase → PhaseStands generation range v i n k r job phase
    phase_on (phases.Begin q) at b = follows_on generation range w v i m n l k gm sm gl sl more r aside b
    phase_on phases.Checkpoint at b = follows_on generation range w v i m n l k gm sm gl sl more r aside b
    phase_on phases.Queue at b = (follows_on generation range w v i m n l k gm sm gl sl more r aside b.0, b.1)
    phase_on phases.Record at b = (paused_on b.0, records_on b.1)
    phase_on (phases.Seal kind q) at b = (recorded_on b.0, seal_on kind q at b.1)
    phase_on (phases.Build q) at b = (recorded_on b.0, b.1)
    phase_on (phases.Keys side c) at b = (recorded_on b.0, b.1, b.2)
    phase_on (phases.Complete q) at b = (recorded_on b.0, b.1)

  -- whatever others do, the range and its split are where they were
  pub follows_both_on : (job : Option SplitJob) → ((j : SplitJob) → job ≡ Some j → (q : ReqNo) → waits_seal j.phase q ≡ true → IsAside n.sent k.sent q) →
      FollowsBoth generation range w i job r m l → FollowsBoth generation range v i job r n k
  follows_both_on None seal_aside b = follows_on generation range w v i m n l k gm sm gl sl more r aside b
  follows_both_on (Some job) seal_aside b = record { range_is = b.range_is; under = b.under; stage = b.stage; others = b.others; stands = phase_on job (seal_aside job refl) job.phase refl b.stands }

-- ---- what is so of both where it is split or not

module _ (generation : ℕ → ℕ) (range : ℕ) (w : StreamSystem) (i : ℕ) (m l : Side) (r : RangeState) where
  abbrev Rows : Type 0
  Rows = (r.load.generation ≡ generation i) × RowsStand range w m.sent l.sent r.rows

  phase_rows : (job : SplitJob) (phase : SplitPhase) → PhaseStands generation range w i m l r job phase → Rows
  phase_rows job (phases.Begin q) b = (b.under, b.rows)
  phase_rows job phases.Checkpoint b = (b.under, b.rows)
  phase_rows job phases.Queue b = (b.0.under, b.0.rows)
  phase_rows job phases.Record b = (b.0.under, b.0.rows)
  phase_rows job (phases.Seal kind q) b = (b.0.paused.under, b.0.paused.rows)
  phase_rows job (phases.Build q) b = (b.0.paused.under, b.0.paused.rows)
  phase_rows job (phases.Keys side c) b = (b.0.paused.under, b.0.paused.rows)
  phase_rows job (phases.Complete q) b = (b.0.paused.under, b.0.paused.rows)

  both_rows : (job : Option SplitJob) → FollowsBoth generation range w i job r m l → Rows
  both_rows None b = (b.under, b.rows)
  both_rows (Some job) b = phase_rows job job.phase b.stands

  -- its generation is that of the incarnation, and row data stands as it should
  pub both_under : (job : Option SplitJob) → FollowsBoth generation range w i job r m l → r.load.generation ≡ generation i
  both_under job b = (both_rows job b).0

  pub both_row_data : (job : Option SplitJob) → FollowsBoth generation range w i job r m l → RowsStand range w m.sent l.sent r.rows
  both_row_data job b = (both_rows job b).1

  -- such a number is none of both streams
  pub seal_aside : (job : SplitJob) (q : ReqNo) → waits_seal job.phase q ≡ true → FollowsBoth generation range w i (Some job) r m l → IsAside m.sent l.sent q
  seal_aside job q waits b = (subst (PhaseStands generation range w i m l r job) (seal_waited job.phase q waits) b.stands).1.0

-- ---- a lease, the Gets that wait, and the values at hand

module _ (generation : ℕ → ℕ) (range : ℕ) (w : StreamSystem) (i : ℕ) (m l : Side) (r : RangeState) (until : ℕ) (gets : List WaitingGet) (held : List (Place × List ℕ)) where
  abbrev k : RangeState
  k = record r { until = until; gets = gets; held = held }

  paused_same : PausedIs generation range w i m l r → PausedIs generation range w i m l k
  paused_same b = record {
    range_is = b.range_is;
    under = b.under;
    stage = b.stage;
    phase = b.phase;
    pause = b.pause;
    control = b.control;
    out = b.out;
    log = b.log;
    rows = b.rows;
    blob = b.blob;
  }

  recorded_same : RecordedIs generation range w i m l r → RecordedIs generation range w i m l k
  recorded_same b = record { paused = paused_same b.paused; metadata = b.metadata }

  seal_same : (kind : StreamKind) (q : ReqNo) → SealStands generation range w i m l r kind q → SealStands generation range w i m l k kind q
  seal_same kinds.Metadata q b = b
  seal_same kinds.Log q b = b
  seal_same kinds.RowData q b = b
  seal_same kinds.BlobData q b = b

  phase_same : (job : SplitJob) (phase : SplitPhase) → PhaseStands generation range w i m l r job phase → PhaseStands generation range w i m l k job phase
  phase_same job (phases.Begin q) b = follows_same generation range w i m l r until gets held b
  phase_same job phases.Checkpoint b = follows_same generation range w i m l r until gets held b
  phase_same job phases.Queue b = (follows_same generation range w i m l r until gets held b.0, b.1)
  phase_same job phases.Record b = (paused_same b.0, record { client = b.1.client; group = b.1.group })
  phase_same job (phases.Seal kind q) b = (recorded_same b.0, seal_same kind q b.1)
  phase_same job (phases.Build q) b = (recorded_same b.0, b.1)
  phase_same job (phases.Keys side c) b = (recorded_same b.0, b.1, b.2)
  phase_same job (phases.Complete q) b = (recorded_same b.0, b.1)

  -- none of these matters to its streams
  pub both_same : (job : Option SplitJob) → FollowsBoth generation range w i job r m l → FollowsBoth generation range w i job k m l
  both_same None b = follows_same generation range w i m l r until gets held b
  both_same (Some job) b = record { range_is = b.range_is; under = b.under; stage = b.stage; others = b.others; stands = phase_same job job.phase b.stands }
