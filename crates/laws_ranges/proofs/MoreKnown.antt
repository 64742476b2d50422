-- What a client has to do with an incarnation is kept while others go on.
use Rattle.std.proofs.Common.{◌≡◌, true, ℕ, ◌+◌, List, ◌++◌, ap, ◌∙◌, arith}
use Rattle.wire.specs.declared.actor.ReqNo.{ReqNo}
use Rattle.wire.specs.declared.streams.StreamName.{StreamName}
use Rattle.wire.specs.declared.streams.StreamKind.TheVariants as kinds
use Rattle.client.specs.declared.job.Job.{Job}
use Rattle.client.specs.declared.job.Job.TheVariants as jobs
use Rattle.client.specs.Client.{ClientState, awaits}
use Rattle.model_streams.specs.StreamSystem.{StreamSystem}
use Rattle.model_partition.specs.declared.stage.Stage.{Stage}
use Rattle.model_partition.specs.declared.stage.Stage.TheVariants as stages
use Rattle.model_partition.specs.Range.{RangeState}
use Rattle.replica.specs.Groups.{Group}
use Rattle.model_histories.specs.Story.{Copy}
use Rattle.laws_stream_machine.specs.Refinement.{Sent, Tells, IsAt}
use Rattle.laws_ranges.specs.Serves.{Stand, Side, Wider, known, IsTold, ServesBy, FoundIs, Readable, WasSealed, WasFound, WasShut, LoadsBy, LoadingIs, OpeningIs, ConfirmingIs, LoadOf, OfSealed, OfStood, ServingIs, UnreadIs, metadata_of, log_of, LoadsMetadata, LoadsLog, StageIs, Follows, rows_of, IsAside, RowsJob, RowsStand}
use Rattle.laws_ranges.proofs.MachineSteps.{request_same}
use Rattle.laws_ranges.proofs.SealedCopies.{first_grown, grown_within}

-- what the incarnation of a stream knows is wider, and it stands where it stood
module _ (generation : ℕ → ℕ) (name : StreamName) (w v : StreamSystem) (i : ℕ) (x y : Stand) (sent more : List Sent)
    (g : Wider name w v x.state y.state sent more) where
  pub tells_on : (c : ClientState) → Tells generation name w x.state sent (record { base = c.base; extents = c.extents }) →
      Tells generation name v y.state more (record { base = c.base; extents = c.extents })
  tells_on c t =
      record {
        left = λ index below. (let z = t.left index below in (z.0, g.shut index z.0 z.1));
        whole = t.whole;
        ends = t.ends;
        known = omega (arith, t.known, g.known);
        are = λ k e at. g.extents (c.base + k) e.extent (t.are k e at);
        sealed = λ k e l at is. (let z = t.sealed k e l at is in (z.0, g.shut (c.base + k) z.0 z.1, z.2));
        unsealed = t.unsealed;
      }

  pub told_on : (c : ClientState) → IsTold generation name w i x sent c → IsTold generation name v i y more c
  told_on c t = record { stream = t.stream; under = t.under; tells = tells_on c t.tells }

  module _ (same : y.phase ≡ x.phase) where
    pub serves_on : (c : ClientState) (job : Job) → ServesBy generation name w i x sent c job → ServesBy generation name v i y more c job
    serves_on c jobs.Idle b = same ∙ b
    serves_on c (jobs.Sent e q) b = record { index = b.index; append = b.append; last = b.last; stands = same ∙ b.stands; for = g.purposes q _ b.for; fact = g.facts _ b.fact }
    serves_on c (jobs.Closing e q) b = record { index = b.index; append = b.append; last = b.last; stands = same ∙ b.stands; for = g.purposes q _ b.for }
    serves_on c (jobs.Growing last q) b = record { append = b.append; all_sealed = b.all_sealed; stands = same ∙ b.stands; for = g.purposes q _ b.for; last_is = b.last_is; fact = g.facts _ b.fact }
    serves_on c (jobs.Checking e q) b = absurd b
    serves_on c (jobs.Shutting e q) b = absurd b
    serves_on c (jobs.Reading e places upto sealed place q) b = absurd b

    found_on : (c : ClientState) → FoundIs generation name w i x sent c → FoundIs generation name v i y more c
    found_on c b = record { e = b.e; index = b.index; found = b.found; stood = b.stood; last = b.last; stands = same ∙ b.stands; checked = b.checked; fact = g.facts _ b.fact }

    readable_on : (c : ClientState) → Readable generation name w i x sent c → Readable generation name v i y more c
    readable_on c (WasSealed live stands) = WasSealed live (same ∙ stands)
    readable_on c (WasFound found) = WasFound (found_on c found)
    readable_on c (WasShut index index_is live stands) = WasShut index index_is live (same ∙ stands)

    pub loads_on : (c : ClientState) (job : Job) → LoadsBy generation name w i x sent c job → LoadsBy generation name v i y more c job
    loads_on c jobs.Idle b = readable_on c b
    loads_on c (jobs.Sent e q) b = absurd b
    loads_on c (jobs.Closing e q) b = absurd b
    loads_on c (jobs.Growing last q) b = absurd b
    loads_on c (jobs.Checking e q) b = record { index = b.index; last = b.last; stands = same ∙ b.stands; for = g.purposes q _ b.for; fact = g.facts _ b.fact }
    loads_on c (jobs.Shutting e q) b = record { index = b.index; last = b.last; stands = same ∙ b.stands; for = g.purposes q _ b.for }
    loads_on c (jobs.Reading e places upto sealed place q) b = record { index = b.index; at = g.extents b.index e b.at; for = g.purposes q _ b.for; is_last = b.is_last; readable = readable_on c b.readable }

    pub loading_on : (c : ClientState) → LoadingIs generation name w i x sent c → LoadingIs generation name v i y more c
    loading_on c b = record { told = told_on c b.told; opened = g.facts _ b.opened; job = loads_on c c.job b.job }

    pub unread_on : (c : ClientState) → UnreadIs generation name w i x sent c → UnreadIs generation name v i y more c
    unread_on c b = record { told = told_on c b.told; opened = g.facts _ b.opened; idle = b.idle; stands = same ∙ b.stands }

    pub opening_on : (q : ReqNo) → OpeningIs generation name w i x sent q → OpeningIs generation name v i y more q
    opening_on q b = record { stands = same ∙ b.stands; for = g.purposes q _ b.for; fact = g.facts _ b.fact }

    load_on : (c : ClientState) (read : List (Copy Group)) → LoadOf i x.state c read → LoadOf i y.state c read
    load_on c read (OfSealed live within is) =
        OfSealed live (grown_within x.state.core.shut y.state.core.shut g.shut (known c) within) (is ∙ first_grown x.state.core.shut y.state.core.shut g.shut (known c) within)
    load_on c read (OfStood index found stood live count checked fact within is) =
        OfStood index found stood live count checked (g.facts _ fact) (grown_within x.state.core.shut y.state.core.shut g.shut index within)
        (is ∙ ap (λ cs. cs ++ stood) (first_grown x.state.core.shut y.state.core.shut g.shut index within))

    pub confirming_on : (c : ClientState) (q : ReqNo) → ConfirmingIs generation name w i x sent c q → ConfirmingIs generation name v i y more c q
    confirming_on c q b = record { told = told_on c b.told; idle = b.idle; read = b.read; end = b.end; of = load_on c b.read b.of; stands = same ∙ b.stands; for = g.purposes q _ b.for; fact = g.facts _ b.fact; ends = b.ends }

    pub serving_on : (c : ClientState) → ServingIs generation name w i x sent c → ServingIs generation name v i y more c
    serving_on c b = record { told = told_on c b.told; job = serves_on c c.job b.job }

-- the same of a range and its two streams
module _ (generation : ℕ → ℕ) (range : ℕ) (w v : StreamSystem) (i : ℕ) (m n l k : Side)
    (gm : Wider (metadata_of range) w v m.stand.state n.stand.state m.sent n.sent) (sm : n.stand.phase ≡ m.stand.phase)
    (gl : Wider (log_of range) w v l.stand.state k.stand.state l.sent k.sent) (sl : k.stand.phase ≡ l.stand.phase) where
  on_metadata : (c : ClientState) → LoadingIs generation (metadata_of range) w i m.stand m.sent c → LoadingIs generation (metadata_of range) v i n.stand n.sent c
  on_metadata c b = loading_on generation (metadata_of range) w v i m.stand n.stand m.sent n.sent gm sm c b

  loads_metadata_on : (r : RangeState) → LoadsMetadata generation range w i m l r → LoadsMetadata generation range v i n k r
  loads_metadata_on r b = record {
    phase = b.phase;
    metadata = on_metadata r.metadata b.metadata;
    log = unread_on generation (log_of range) w v i l.stand k.stand l.sent k.sent gl sl r.log b.log;
  }

  loads_log_on : (r : RangeState) → LoadsLog generation range w i m l r → LoadsLog generation range v i n k r
  loads_log_on r b = record {
    phase = b.phase;
    metadata = on_metadata r.metadata b.metadata;
    metadata_idle = b.metadata_idle;
    log = loading_on generation (log_of range) w v i l.stand k.stand l.sent k.sent gl sl r.log b.log;
  }

  stage_on : (r : RangeState) (stage : Stage) → StageIs generation range w i m l r stage → StageIs generation range v i n k r stage
  stage_on r stages.Opening b = record {
    q = b.q;
    phase = b.phase;
    metadata = opening_on generation (metadata_of range) w v i m.stand n.stand m.sent n.sent gm sm b.q b.metadata;
    log = opening_on generation (log_of range) w v i l.stand k.stand l.sent k.sent gl sl b.q b.log;
    metadata_idle = b.metadata_idle;
    log_idle = b.log_idle;
  }
  stage_on r (stages.Checking kinds.Metadata) b = loads_metadata_on r b
  stage_on r (stages.Checking kinds.Log) b = loads_log_on r b
  stage_on r (stages.Checking kinds.RowData) b = absurd b
  stage_on r (stages.Checking kinds.BlobData) b = absurd b
  stage_on r (stages.Reading kinds.Metadata position) b = loads_metadata_on r b
  stage_on r (stages.Reading kinds.Log position) b = loads_log_on r b
  stage_on r (stages.Reading kinds.RowData position) b = absurd b
  stage_on r (stages.Reading kinds.BlobData position) b = absurd b
  stage_on r (stages.Indexing position) b = record {
    phase = b.phase;
    metadata = on_metadata r.metadata b.metadata;
    metadata_idle = b.metadata_idle;
    log = loading_on generation (log_of range) w v i l.stand k.stand l.sent k.sent gl sl r.log b.log;
    log_idle = b.log_idle;
  }
  stage_on r stages.Confirming b = record {
    q = b.q;
    phase = b.phase;
    metadata = confirming_on generation (metadata_of range) w v i m.stand n.stand m.sent n.sent gm sm r.metadata b.q b.metadata;
    log = confirming_on generation (log_of range) w v i l.stand k.stand l.sent k.sent gl sl r.log b.q b.log;
  }
  stage_on r stages.Serving b = record {
    phase = b.phase;
    metadata = serving_on generation (metadata_of range) w v i m.stand n.stand m.sent n.sent gm sm r.metadata b.metadata;
    record_is = b.record_is;
    log = serving_on generation (log_of range) w v i l.stand k.stand l.sent k.sent gl sl r.log b.log;
    out = b.out;
    position = b.position;
    trims = b.trims;
  }

  -- row data is asked as before, where its number is none that others have used for the two streams
  pub rows_job_on : ((index e : ℕ) → IsAt w (rows_of range) index e → IsAt v (rows_of range) index e) → (j : Job) → ((q : ReqNo) → awaits j q ≡ true → IsAside n.sent k.sent q) → RowsJob range w m.sent l.sent j → RowsJob range v n.sent k.sent j
  rows_job_on more jobs.Idle aside b = tt
  rows_job_on more (jobs.Sent e q) aside b = ((b.0.0, more b.0.0 e b.0.1), aside q (request_same q))
  rows_job_on more (jobs.Closing e q) aside b = ((b.0.0, more b.0.0 e b.0.1), aside q (request_same q))
  rows_job_on more (jobs.Growing last q) aside b = aside q (request_same q)
  rows_job_on more (jobs.Checking e q) aside b = b
  rows_job_on more (jobs.Shutting e q) aside b = b
  rows_job_on more (jobs.Reading e places upto sealed place q) aside b = b

  pub rows_on : ((index e : ℕ) → IsAt w (rows_of range) index e → IsAt v (rows_of range) index e) → (c : ClientState) → ((q : ReqNo) → awaits c.job q ≡ true → IsAside n.sent k.sent q) →
      RowsStand range w m.sent l.sent c → RowsStand range v n.sent k.sent c
  rows_on more c aside b = record {
    stream = b.stream;
    listed = λ x here. (let at = b.listed x here in (at.0, more at.0 x.extent at.1));
    job = rows_job_on more c.job aside b.job;
  }

  -- whatever others do, the range is where it was
  pub follows_on : ((index e : ℕ) → IsAt w (rows_of range) index e → IsAt v (rows_of range) index e) → (r : RangeState) → ((q : ReqNo) → awaits r.rows.job q ≡ true → IsAside n.sent k.sent q) →
      Follows generation range w i m l r → Follows generation range v i n k r
  follows_on more r aside b = record {
    range_is = b.range_is;
    under = b.under;
    calm = b.calm;
    rows = rows_on more r.rows aside b.rows;
    stage = stage_on r r.stage b.stage;
  }
