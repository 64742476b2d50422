-- The turns of rules that leave a range unserved are quiet.
use Rattle.std.proofs.Common.{◌≡◌, ℕ, List, false, Option, Some, None, refl, sym, subst}
use Rattle.wire.specs.declared.streams.StreamKind.TheVariants as kinds
use Rattle.wire.specs.declared.streams.StreamName.{StreamName}
use Rattle.replica.specs.Groups.{Group}
use Rattle.client.specs.declared.job.Job.{Job}
use Rattle.client.specs.declared.job.Job.TheVariants as jobs
use Rattle.client.specs.Client.{ClientState}
use Rattle.model_streams.specs.StreamSystem.{StreamSystem}
use Rattle.model_partition.specs.declared.server_context.ServerContext.{ServerContext}
use Rattle.model_partition.specs.declared.stage.Stage.{Stage}
use Rattle.model_partition.specs.declared.stage.Stage.TheVariants as stages
use Rattle.model_partition.specs.Range.{RangeState, RangeOutcome, is_serving}
use Rattle.model_histories.specs.ServerTurns as turns
use Rattle.laws_stream_machine.specs.Refinement.{Sent}
use Rattle.laws_ranges.specs.Serves.{Stand, Side, after_turns, metadata_of, log_of, Readable, WasSealed, WasFound, WasShut, LoadsBy, StageIs, Follows, FollowsIf, RuleGoes}
use Rattle.laws_ranges.specs.Quiet.{IsLoading, AreQuiet, GoesQuietly}
use Rattle.laws_loads.specs.StaysLoading.{Stays, IsUnserved}
use Rattle.laws_ranges.proofs.QuietTurns.{loading_quiet}
use Rattle.laws_loads.proofs.WaitingStays.{stays_unserved}

-- ---- a range that is not served stands in its load

module _ (generation : ℕ → ℕ) (name : StreamName) (w : StreamSystem) (i : ℕ) (x : Stand) (sent : List Sent) (c : ClientState) where
  loading_at : (p : turns.Phase Group) → x.phase ≡ p → IsLoading p → IsLoading x.phase
  loading_at p e h = subst (λ z. IsLoading z) (sym e) h

  readable_loading : Readable generation name w i x sent c → IsLoading x.phase
  readable_loading (WasSealed live stands) = loading_at turns.Opening stands tt
  readable_loading (WasFound found) = loading_at (turns.Checking found.index) found.stands tt
  readable_loading (WasShut index index_is live stands) = loading_at (turns.Sealing index) stands tt

  job_loading : (j : Job) → LoadsBy generation name w i x sent c j → IsLoading x.phase
  job_loading jobs.Idle b = readable_loading b
  job_loading (jobs.Sent e q) b = absurd b
  job_loading (jobs.Closing e q) b = absurd b
  job_loading (jobs.Growing last q) b = absurd b
  job_loading (jobs.Checking e q) b = loading_at (turns.Checking b.index) b.stands tt
  job_loading (jobs.Shutting e q) b = loading_at (turns.Sealing b.index) b.stands tt
  job_loading (jobs.Reading e places upto sealed place q) b = readable_loading b.readable

module _ (generation : ℕ → ℕ) (range : ℕ) (w : StreamSystem) (i : ℕ) where
  stage_loading : (m l : Side) (r : RangeState) (stage : Stage) → StageIs generation range w i m l r stage → is_serving stage ≡ false → IsLoading l.stand.phase
  stage_loading m l r stages.Opening b e = subst (λ z. IsLoading z) (sym b.log.stands) tt
  stage_loading m l r (stages.Checking kinds.Metadata) b e = subst (λ z. IsLoading z) (sym b.log.stands) tt
  stage_loading m l r (stages.Checking kinds.Log) b e = job_loading generation (log_of range) w i l.stand l.sent r.log r.log.job b.log.job
  stage_loading m l r (stages.Checking kinds.RowData) b e = absurd b
  stage_loading m l r (stages.Checking kinds.BlobData) b e = absurd b
  stage_loading m l r (stages.Reading kinds.Metadata position) b e = subst (λ z. IsLoading z) (sym b.log.stands) tt
  stage_loading m l r (stages.Reading kinds.Log position) b e = job_loading generation (log_of range) w i l.stand l.sent r.log r.log.job b.log.job
  stage_loading m l r (stages.Reading kinds.RowData position) b e = absurd b
  stage_loading m l r (stages.Reading kinds.BlobData position) b e = absurd b
  stage_loading m l r (stages.Indexing position) b e = job_loading generation (log_of range) w i l.stand l.sent r.log r.log.job b.log.job
  stage_loading m l r stages.Confirming b e = subst (λ z. IsLoading z) (sym b.log.stands) tt
  stage_loading m l r stages.Serving b e = absurd (cc)

  -- the log of a range that is not served stands in its load
  pub unserved_loading : (m l : Side) (r : RangeState) → Follows generation range w i m l r → is_serving r.stage ≡ false → IsLoading l.stand.phase
  unserved_loading m l r f e = stage_loading m l r r.stage f.stage e

  metadata_loading : (m l : Side) (r : RangeState) (stage : Stage) → StageIs generation range w i m l r stage → is_serving stage ≡ false → IsLoading m.stand.phase
  metadata_loading m l r stages.Opening b e = subst (λ z. IsLoading z) (sym b.metadata.stands) tt
  metadata_loading m l r (stages.Checking kinds.Metadata) b e = job_loading generation (metadata_of range) w i m.stand m.sent r.metadata r.metadata.job b.metadata.job
  metadata_loading m l r (stages.Checking kinds.Log) b e = job_loading generation (metadata_of range) w i m.stand m.sent r.metadata r.metadata.job b.metadata.job
  metadata_loading m l r (stages.Checking kinds.RowData) b e = absurd b
  metadata_loading m l r (stages.Checking kinds.BlobData) b e = absurd b
  metadata_loading m l r (stages.Reading kinds.Metadata position) b e = job_loading generation (metadata_of range) w i m.stand m.sent r.metadata r.metadata.job b.metadata.job
  metadata_loading m l r (stages.Reading kinds.Log position) b e = job_loading generation (metadata_of range) w i m.stand m.sent r.metadata r.metadata.job b.metadata.job
  metadata_loading m l r (stages.Reading kinds.RowData position) b e = absurd b
  metadata_loading m l r (stages.Reading kinds.BlobData position) b e = absurd b
  metadata_loading m l r (stages.Indexing position) b e = job_loading generation (metadata_of range) w i m.stand m.sent r.metadata r.metadata.job b.metadata.job
  metadata_loading m l r stages.Confirming b e = subst (λ z. IsLoading z) (sym b.metadata.stands) tt
  metadata_loading m l r stages.Serving b e = absurd (cc)

  -- so does its metadata
  pub unserved_metadata : (m l : Side) (r : RangeState) → Follows generation range w i m l r → is_serving r.stage ≡ false → IsLoading m.stand.phase
  unserved_metadata m l r f e = metadata_loading m l r r.stage f.stage e

  -- ---- rules

  module _ (m l : Side) (d : ServerContext) (o : RangeOutcome) where
    -- the turns of a rule that drops the range or leaves it unserved are quiet
    pub unserved_quietly : RuleGoes generation range w i m l d o → IsUnserved o.after → GoesQuietly generation range w i m l d o
    unserved_quietly goes unserved = go o.after refl unserved
      where
        n : Side
        n = record { stand = after_turns generation i m.stand goes.metadata_turns; sent = goes.metadata_sent }

        k : Side
        k = record { stand = after_turns generation i l.stand goes.log_turns; sent = goes.log_sent }

        go : (a : Option RangeState) → o.after ≡ a → IsUnserved a → GoesQuietly generation range w i m l d o
        go None e u =
            record {
              goes = goes;
              metadata = subst (λ ts. AreQuiet ts) (sym (goes.none e).0) tt;
              log = subst (λ ts. AreQuiet ts) (sym (goes.none e).1) tt;
            }
        go (Some r) e u =
            let f : Follows generation range w i n k r = subst (λ z. FollowsIf generation range w i z n k) e goes.then in
            record {
              goes = goes;
              metadata = loading_quiet generation i m.stand goes.metadata_turns goes.metadata_allowed (unserved_metadata n k r f u);
              log = loading_quiet generation i l.stand goes.log_turns goes.log_allowed (unserved_loading n k r f u);
            }

  -- so are those of a rule that leaves a range unserved, or drops it, and shows nothing
  pub stays_quietly : (m l : Side) (d : ServerContext) (r : RangeState) (o : RangeOutcome) → RuleGoes generation range w i m l d o → is_serving r.stage ≡ false → Stays r o → GoesQuietly generation range w i m l d o
  stays_quietly m l d r o goes unserved s = unserved_quietly m l d o goes (stays_unserved r o unserved s)
