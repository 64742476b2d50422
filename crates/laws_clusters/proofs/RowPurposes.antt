-- Which job of a range a request is of, by the purpose of its number.
use Rattle.std.proofs.Common.{◌≡◌, ℕ, true, false, List, Option, Some, None, sym, ap, ◌∙◌, subst, inl, inr}
use Rattle.wire.specs.declared.actor.ReqNo.{ReqNo}
use Rattle.wire.specs.declared.body.AppendBody.TheVariants as appends
use Rattle.wire.specs.declared.body.Body.{Body}
use Rattle.wire.specs.declared.body.Body.TheVariants as bodies
use Rattle.wire.specs.declared.body.SealBody.TheVariants as seals
use Rattle.wire.specs.declared.body.StreamBody.TheVariants as streams
use Rattle.wire.specs.declared.streams.StreamKind.TheVariants as kinds
use Rattle.wire.specs.declared.streams.StreamName.{StreamName}
use Rattle.client.specs.declared.job.Job.{Job}
use Rattle.client.specs.declared.job.Job.TheVariants as jobs
use Rattle.client.specs.Client.{ClientState, awaits}
use Rattle.client.specs.Requests.{is_same}
use Rattle.model_streams.specs.StreamSystem.{StreamSystem}
use Rattle.model_partition.specs.declared.stage.Stage.{Stage}
use Rattle.model_partition.specs.declared.stage.Stage.TheVariants as stages
use Rattle.model_partition.specs.declared.split_job.SplitJob.{SplitJob}
use Rattle.model_partition.specs.declared.split_job.SplitPhase.{SplitPhase}
use Rattle.model_partition.specs.declared.split_job.SplitPhase.TheVariants as phases
use Rattle.model_partition.specs.Range.{RangeState}
use Rattle.laws_stream_machine.specs.Refinement.{Purpose, Sent, purpose_of, asked_number}
use Rattle.laws_stream_machine.proofs.ServerRequests.{same_request}
use Rattle.laws_ranges.specs.Serves.{Stand, Side, metadata_of, log_of, IsAside, RowsJob, RowsStand, AsksOfRows, ServesBy, LoadsBy, StageIs}
use Rattle.laws_ranges.specs.SplitJobs.{PhaseStands, FollowsBoth}
use Rattle.laws_ranges.proofs.MachineSteps.{request_same}
use Rattle.laws_clusters.proofs.ClientJobs.{AsksBy, ReadsNothing}
use Rattle.laws_clusters.proofs.Elsewhere.{RowsRequest}
use Rattle.laws_clusters.proofs.RowRules.{AsksIn}

-- the number has a purpose
abbrev pub HasPurpose : List Sent → ReqNo → Type 0
HasPurpose sent q = (p : Purpose) × (purpose_of sent q ≡ Some p)

-- a job that waits for a number waits for it under its own
pub own_number : (P : ReqNo → Type 0) (v q : ReqNo) → is_same v q ≡ true → P v → P q
own_number P v q same has = subst P (same_request v q same) has

-- ---- row data

module _ (range : ℕ) (w : StreamSystem) (m l : List Sent) where
  -- the number that row data waits under is none of the other streams'
  pub rows_aside : (job : Job) → RowsJob range w m l job → (q : ReqNo) → awaits job q ≡ true → IsAside m l q
  rows_aside jobs.Idle stands q waits = absurd cc
  rows_aside (jobs.Sent e v) stands q waits = own_number (IsAside m l) v q waits stands.1
  rows_aside (jobs.Closing e v) stands q waits = own_number (IsAside m l) v q waits stands.1
  rows_aside (jobs.Growing last v) stands q waits = own_number (IsAside m l) v q waits stands
  rows_aside (jobs.Checking e v) stands q waits = absurd stands
  rows_aside (jobs.Shutting e v) stands q waits = absurd stands
  rows_aside (jobs.Reading e places upto sealed place v) stands q waits = absurd stands

  -- no groups of it are read
  pub rows_unread : (job : Job) → RowsJob range w m l job → ReadsNothing job
  rows_unread jobs.Idle stands = tt
  rows_unread (jobs.Sent e v) stands = tt
  rows_unread (jobs.Closing e v) stands = tt
  rows_unread (jobs.Growing last v) stands = tt
  rows_unread (jobs.Checking e v) stands = tt
  rows_unread (jobs.Shutting e v) stands = tt
  rows_unread (jobs.Reading e places upto sealed place v) stands = absurd stands

-- ---- the other streams

module _ (generation : ℕ → ℕ) (name : StreamName) (w : StreamSystem) (i : ℕ) (x : Stand) (sent : List Sent) (c : ClientState) where
  served_purpose : (job : Job) → ServesBy generation name w i x sent c job → (q : ReqNo) → awaits job q ≡ true → HasPurpose sent q
  served_purpose jobs.Idle serves q waits = absurd cc
  served_purpose (jobs.Sent e v) serves q waits = own_number (HasPurpose sent) v q waits (_, serves.for)
  served_purpose (jobs.Closing e v) serves q waits = own_number (HasPurpose sent) v q waits (_, serves.for)
  served_purpose (jobs.Growing last v) serves q waits = own_number (HasPurpose sent) v q waits (_, serves.for)
  served_purpose (jobs.Checking e v) serves q waits = absurd serves
  served_purpose (jobs.Shutting e v) serves q waits = absurd serves
  served_purpose (jobs.Reading e places upto sealed place v) serves q waits = absurd serves

  load_purpose : (job : Job) → LoadsBy generation name w i x sent c job → (q : ReqNo) → awaits job q ≡ true → HasPurpose sent q
  load_purpose jobs.Idle loads q waits = absurd cc
  load_purpose (jobs.Sent e v) loads q waits = absurd loads
  load_purpose (jobs.Closing e v) loads q waits = absurd loads
  load_purpose (jobs.Growing last v) loads q waits = absurd loads
  load_purpose (jobs.Checking e v) loads q waits = own_number (HasPurpose sent) v q waits (_, loads.for)
  load_purpose (jobs.Shutting e v) loads q waits = own_number (HasPurpose sent) v q waits (_, loads.for)
  load_purpose (jobs.Reading e places upto sealed place v) loads q waits = own_number (HasPurpose sent) v q waits (_, loads.for)

  idle_purpose : (job : Job) → job ≡ jobs.Idle → (q : ReqNo) → awaits job q ≡ true → HasPurpose sent q
  idle_purpose job idle q waits = absurd (let z : false ≡ true = sym (ap (λ j. awaits j q) idle) ∙ waits in cc)

module _ (generation : ℕ → ℕ) (range : ℕ) (w : StreamSystem) (i : ℕ) (m l : Side) (r : RangeState) where
  metadata_at : (stage : Stage) → StageIs generation range w i m l r stage → (q : ReqNo) → awaits r.metadata.job q ≡ true → HasPurpose m.sent q
  metadata_at stages.Opening b q waits = idle_purpose generation (metadata_of range) w i m.stand m.sent r.metadata r.metadata.job b.metadata_idle q waits
  metadata_at (stages.Checking kinds.Metadata) b q waits = load_purpose generation (metadata_of range) w i m.stand m.sent r.metadata r.metadata.job b.metadata.job q waits
  metadata_at (stages.Checking kinds.Log) b q waits = load_purpose generation (metadata_of range) w i m.stand m.sent r.metadata r.metadata.job b.metadata.job q waits
  metadata_at (stages.Checking kinds.RowData) b q waits = absurd b
  metadata_at (stages.Checking kinds.BlobData) b q waits = absurd b
  metadata_at (stages.Reading kinds.Metadata position) b q waits = load_purpose generation (metadata_of range) w i m.stand m.sent r.metadata r.metadata.job b.metadata.job q waits
  metadata_at (stages.Reading kinds.Log position) b q waits = load_purpose generation (metadata_of range) w i m.stand m.sent r.metadata r.metadata.job b.metadata.job q waits
  metadata_at (stages.Reading kinds.RowData position) b q waits = absurd b
  metadata_at (stages.Reading kinds.BlobData position) b q waits = absurd b
  metadata_at (stages.Indexing position) b q waits = load_purpose generation (metadata_of range) w i m.stand m.sent r.metadata r.metadata.job b.metadata.job q waits
  metadata_at stages.Confirming b q waits = idle_purpose generation (metadata_of range) w i m.stand m.sent r.metadata r.metadata.job b.metadata.idle q waits
  metadata_at stages.Serving b q waits = served_purpose generation (metadata_of range) w i m.stand m.sent r.metadata r.metadata.job b.metadata.job q waits

  log_at : (stage : Stage) → StageIs generation range w i m l r stage → (q : ReqNo) → awaits r.log.job q ≡ true → HasPurpose l.sent q
  log_at stages.Opening b q waits = idle_purpose generation (log_of range) w i l.stand l.sent r.log r.log.job b.log_idle q waits
  log_at (stages.Checking kinds.Metadata) b q waits = idle_purpose generation (log_of range) w i l.stand l.sent r.log r.log.job b.log.idle q waits
  log_at (stages.Checking kinds.Log) b q waits = load_purpose generation (log_of range) w i l.stand l.sent r.log r.log.job b.log.job q waits
  log_at (stages.Checking kinds.RowData) b q waits = absurd b
  log_at (stages.Checking kinds.BlobData) b q waits = absurd b
  log_at (stages.Reading kinds.Metadata position) b q waits = idle_purpose generation (log_of range) w i l.stand l.sent r.log r.log.job b.log.idle q waits
  log_at (stages.Reading kinds.Log position) b q waits = load_purpose generation (log_of range) w i l.stand l.sent r.log r.log.job b.log.job q waits
  log_at (stages.Reading kinds.RowData position) b q waits = absurd b
  log_at (stages.Reading kinds.BlobData position) b q waits = absurd b
  log_at (stages.Indexing position) b q waits = load_purpose generation (log_of range) w i l.stand l.sent r.log r.log.job b.log.job q waits
  log_at stages.Confirming b q waits = idle_purpose generation (log_of range) w i l.stand l.sent r.log r.log.job b.log.idle q waits
  log_at stages.Serving b q waits = served_purpose generation (log_of range) w i l.stand l.sent r.log r.log.job b.log.job q waits

  -- the same where the range is being split
  metadata_phase : (job : SplitJob) (phase : SplitPhase) → PhaseStands generation range w i m l r job phase → (q : ReqNo) → awaits r.metadata.job q ≡ true → HasPurpose m.sent q
  metadata_phase job (phases.Begin v) b q waits = metadata_at r.stage b.stage q waits
  metadata_phase job phases.Checkpoint b q waits = metadata_at r.stage b.stage q waits
  metadata_phase job phases.Queue b q waits = metadata_at r.stage b.0.stage q waits
  metadata_phase job phases.Record b q waits = served_purpose generation (metadata_of range) w i m.stand m.sent r.metadata r.metadata.job b.1.client.job q waits
  metadata_phase job (phases.Seal kind v) b q waits = idle_purpose generation (metadata_of range) w i m.stand m.sent r.metadata r.metadata.job b.0.metadata.idle q waits
  metadata_phase job (phases.Build v) b q waits = idle_purpose generation (metadata_of range) w i m.stand m.sent r.metadata r.metadata.job b.0.metadata.idle q waits
  metadata_phase job (phases.Keys side c) b q waits = idle_purpose generation (metadata_of range) w i m.stand m.sent r.metadata r.metadata.job b.0.metadata.idle q waits
  metadata_phase job (phases.Complete v) b q waits = idle_purpose generation (metadata_of range) w i m.stand m.sent r.metadata r.metadata.job b.0.metadata.idle q waits

  log_phase : (job : SplitJob) (phase : SplitPhase) → PhaseStands generation range w i m l r job phase → (q : ReqNo) → awaits r.log.job q ≡ true → HasPurpose l.sent q
  log_phase job (phases.Begin v) b q waits = log_at r.stage b.stage q waits
  log_phase job phases.Checkpoint b q waits = log_at r.stage b.stage q waits
  log_phase job phases.Queue b q waits = log_at r.stage b.0.stage q waits
  log_phase job phases.Record b q waits = idle_purpose generation (log_of range) w i l.stand l.sent r.log r.log.job b.0.log.idle q waits
  log_phase job (phases.Seal kind v) b q waits = idle_purpose generation (log_of range) w i l.stand l.sent r.log r.log.job b.0.paused.log.idle q waits
  log_phase job (phases.Build v) b q waits = idle_purpose generation (log_of range) w i l.stand l.sent r.log r.log.job b.0.paused.log.idle q waits
  log_phase job (phases.Keys side c) b q waits = idle_purpose generation (log_of range) w i l.stand l.sent r.log r.log.job b.0.paused.log.idle q waits
  log_phase job (phases.Complete v) b q waits = idle_purpose generation (log_of range) w i l.stand l.sent r.log r.log.job b.0.paused.log.idle q waits

  pub metadata_both : (job : Option SplitJob) → FollowsBoth generation range w i job r m l → (q : ReqNo) → awaits r.metadata.job q ≡ true → HasPurpose m.sent q
  metadata_both None b q waits = metadata_at r.stage b.stage q waits
  metadata_both (Some job) b q waits = metadata_phase job job.phase b.stands q waits

  pub log_both : (job : Option SplitJob) → FollowsBoth generation range w i job r m l → (q : ReqNo) → awaits r.log.job q ≡ true → HasPurpose l.sent q
  log_both None b q waits = log_at r.stage b.stage q waits
  log_both (Some job) b q waits = log_phase job job.phase b.stands q waits

  -- what is asked under a number of neither stream is what row data asks
  module _ (split : Option SplitJob) (f : FollowsBoth generation range w i split r m l) (q : ReqNo) (aside : IsAside m.sent l.sent q) where
    not_metadata : awaits r.metadata.job q ≡ true → ⊥
    not_metadata t = let a = metadata_both split f q t in let z : None ≡ Some a.0 = sym aside.0 ∙ a.1 in cc

    not_log : awaits r.log.job q ≡ true → ⊥
    not_log t = let a = log_both split f q t in let z : None ≡ Some a.0 = sym aside.1 ∙ a.1 in cc

    under : (job : Job) (v : ReqNo) → v ≡ q → awaits job v ≡ true → (c : ClientState) → c.job ≡ job → awaits c.job q ≡ true
    under job v same own c is = ap (λ j. awaits j q) is ∙ ap (awaits job) (sym same) ∙ own

    pub own_asks : (body : Body) → AsksIn r body → asked_number body ≡ Some q → AsksBy r.rows body
    own_asks (bodies.Append (appends.Append e g blocks v)) (inl a) number = absurd (let same : v ≡ q = cc in not_metadata (under (jobs.Sent e v) v same (request_same v) r.metadata a.0))
    own_asks (bodies.Append (appends.Append e g blocks v)) (inr (inl a)) number = absurd (let same : v ≡ q = cc in not_log (under (jobs.Sent e v) v same (request_same v) r.log a.0))
    own_asks (bodies.Append (appends.Append e g blocks v)) (inr (inr a)) number = a
    own_asks (bodies.Append body) a number = tt
    own_asks (bodies.Seal (seals.SealExtent e v)) (inl (inl a)) number = absurd (let same : v ≡ q = cc in not_metadata (under (jobs.Closing e v) v same (request_same v) r.metadata a))
    own_asks (bodies.Seal (seals.SealExtent e v)) (inl (inr a)) number = absurd (let same : v ≡ q = cc in not_metadata (under (jobs.Shutting e v) v same (request_same v) r.metadata a))
    own_asks (bodies.Seal (seals.SealExtent e v)) (inr (inl (inl a))) number = absurd (let same : v ≡ q = cc in not_log (under (jobs.Closing e v) v same (request_same v) r.log a))
    own_asks (bodies.Seal (seals.SealExtent e v)) (inr (inl (inr a))) number = absurd (let same : v ≡ q = cc in not_log (under (jobs.Shutting e v) v same (request_same v) r.log a))
    own_asks (bodies.Seal (seals.SealExtent e v)) (inr (inr a)) number = a
    own_asks (bodies.Seal body) a number = tt
    own_asks (bodies.Stream (streams.Extend stream g last pick v)) (inl a) number = absurd (let same : v ≡ q = cc in not_metadata (under (jobs.Growing last v) v same (request_same v) r.metadata a.0))
    own_asks (bodies.Stream (streams.Extend stream g last pick v)) (inr (inl a)) number = absurd (let same : v ≡ q = cc in not_log (under (jobs.Growing last v) v same (request_same v) r.log a.0))
    own_asks (bodies.Stream (streams.Extend stream g last pick v)) (inr (inr a)) number = a
    own_asks (bodies.Stream (streams.MultiModify list v)) a number = absurd (let z : None ≡ Some q = number in cc)
    own_asks (bodies.Stream body) a number = tt
    own_asks (bodies.Map body) a number = absurd (let z : None ≡ Some q = number in cc)
    own_asks body a number = tt

-- ---- what is asked of row data

-- its extents are of the list, and so is the list that is to grow
pub rows_request : (range : ℕ) (w : StreamSystem) (m l : List Sent) (c : ClientState) → RowsStand range w m l c → (body : Body) → AsksOfRows range c body → AsksBy c body → RowsRequest w range body
rows_request range w m l c stands (bodies.Append (appends.Append e g blocks q)) rows asks = (subst (λ j. RowsJob range w m l j) asks.0 stands.job).0
rows_request range w m l c stands (bodies.Append body) rows asks = tt
rows_request range w m l c stands (bodies.Check body) rows asks = absurd rows
rows_request range w m l c stands (bodies.Read body) rows asks = absurd rows
rows_request range w m l c stands (bodies.Seal (seals.SealExtent e q)) rows (inl asks) = (subst (λ j. RowsJob range w m l j) asks stands.job).0
rows_request range w m l c stands (bodies.Seal (seals.SealExtent e q)) rows (inr asks) = absurd (subst (λ j. RowsJob range w m l j) asks stands.job)
rows_request range w m l c stands (bodies.Seal body) rows asks = absurd rows
rows_request range w m l c stands (bodies.Stream (streams.Extend stream g last pick q)) rows asks = rows
rows_request range w m l c stands (bodies.Stream body) rows asks = absurd rows
rows_request range w m l c stands body rows asks = absurd rows
