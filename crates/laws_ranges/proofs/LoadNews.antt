-- What the answers to the client of a stream make of a load, as both streams see it.
use Rattle.std.proofs.Common.{◌≡◌, ap, ℕ, suc, List, [], Bool, true, false, Option, Some, None, option_to_list, refl, sym, ◌∙◌, subst, arith, if◌then◌else◌}
use Rattle.wire.specs.declared.actor.ReqNo.{ReqNo}
use Rattle.wire.specs.declared.body.Body.{Body}
use Rattle.wire.specs.declared.packet.Packet.{Packet}
use Rattle.wire.specs.declared.streams.StreamKind.TheVariants as kinds
use Rattle.client.specs.declared.job.Job.{Job}
use Rattle.client.specs.declared.job.Job.TheVariants as jobs
use Rattle.client.specs.declared.job.News.{News}
use Rattle.client.specs.declared.job.News.TheVariants as news
use Rattle.client.specs.Client.{ClientState, Outcome, awaits, reply_rule}
use Rattle.metadata.specs.Fold.{MetadataState}
use Rattle.model_streams.specs.StreamSystem.{StreamSystem}
use Rattle.model_partition.specs.declared.server_context.ServerContext.{ServerContext}
use Rattle.model_partition.specs.declared.stage.Stage.{Stage}
use Rattle.model_partition.specs.declared.stage.Stage.TheVariants as stages
use Rattle.model_partition.specs.Range.{RangeState, request, picking, goes, answers, is_serving}
use Rattle.model_partition.specs.Loading.{Group, says, said_after, metadata_news, log_news, first_position}
use Rattle.model_partition.specs.Checkpoints.{record_told}
use Rattle.model_partition.specs.Answering.{metadata_reply, serving_news, log_taken, log_reply, is_taken, groups_of}
use Rattle.laws_stream_machine.specs.Refinement.{Means}
use Rattle.laws_ranges.specs.Serves.{RowsStand, HasNoCheckpoint, Side, metadata_of, log_of, LoadingIs, LoadsMetadata, LoadsLog, StageIs, Follows, Goes, BothListed, IsSentBy, RuleGoes}
use Rattle.laws_ranges.proofs.RowData.{rows_idle}
use Rattle.laws_ranges.proofs.AppendJob.{rests}
use Rattle.laws_ranges.proofs.Confirmed.{dropped_both}
use Rattle.laws_ranges.proofs.LoadTurns.{LoadsNow}
use Rattle.laws_ranges.proofs.LoadReply.{LoadTold, load_goes}
use Rattle.laws_ranges.proofs.ServerPick.{picked_loading}
use Rattle.laws_ranges.proofs.BothStreamsAtOnce.{AllRead}
use Rattle.laws_ranges.proofs.ReadLog.{reads_log_both, reads_log_from_both, log_read_both}
use Rattle.laws_ranges.proofs.BothStreams.{log_step, metadata_step, still_both}
use Rattle.laws_ranges.proofs.LoadBegins.{ReadsMetadata, reads_metadata_both}

module _ (generation : ℕ → ℕ) (range : ℕ) (w : StreamSystem) (i : ℕ) (both : BothListed w range) (m l : Side) (d : ServerContext) (by : IsSentBy d d.count m.sent l.sent)
    (r : RangeState) (range_is : r.load.range ≡ range) (under : r.load.generation ≡ generation i) (calm : HasNoCheckpoint r) (rows : RowsStand range w m.sent l.sent r.rows) where
  -- ---- the metadata

  module _ (b : LoadsMetadata generation range w i m l r)
      (keeps : (n k : Side) (s : RangeState) → s.stage ≡ r.stage → LoadsMetadata generation range w i n k s → StageIs generation range w i n k s s.stage) where
    abbrev with_metadata : ClientState → RangeState
    with_metadata c = record r { metadata = c }

    -- it waits on
    metadata_waits : (c : ClientState) (p : Option Packet) → Goes generation (metadata_of range) w i m.stand m.sent (request d) (λ y more. LoadingIs generation (metadata_of range) w i y more c) p →
        RuleGoes generation range w i m l d (goes d (with_metadata c) (option_to_list p) [])
    metadata_waits c p went =
        metadata_step generation range w i both m l d by (with_metadata c) p _ went
        (record { range_is = range_is; under = under; calm = λ u. calm; rows = rows_idle range w m.sent l.sent _ _ r.rows calm.0 rows; stage = keeps _ l (with_metadata c) refl (record { phase = b.phase; metadata = went.then; log = b.log }) })

    metadata_silent : (c : ClientState) (p : Option Packet) → LoadsNow generation (metadata_of range) w i m.stand m.sent c p →
        RuleGoes generation range w i m l d (goes d (with_metadata c) (option_to_list p) [])
    metadata_silent c p now =
        subst (λ z. RuleGoes generation range w i m l d (goes d (with_metadata c) (option_to_list z) [])) (sym now.silent)
        (metadata_waits c None (rests generation (metadata_of range) w i m.stand m.sent (request d) _ now.loading))

    reads_now : (c : ClientState) (p : Option Packet) → LoadsNow generation (metadata_of range) w i m.stand m.sent c p → ReadsMetadata generation range w i both m l d by (with_metadata c)
    reads_now c p now = record { range_is = range_is; under = under; calm = calm; rows = rows; phase = b.phase; metadata = now.loading; metadata_idle = now.idle; log = b.log }

    says_both : (c : ClientState) (p : Option Packet) → LoadsNow generation (metadata_of range) w i m.stand m.sent c p → (position : ℕ) (o : Option MetadataState) →
        RuleGoes generation range w i m l d (says d (with_metadata c) position o)
    says_both c p now position None = dropped_both generation range w i both m l d by (with_metadata c)
    says_both c p now position (Some said) =
        reads_metadata_both generation range w i both m l d by (record r { metadata = c; said = said })
        (record { range_is = range_is; under = under; calm = calm; rows = rows; phase = b.phase; metadata = now.loading; metadata_idle = now.idle; log = b.log }) (suc position)

    metadata_checking : (c : ClientState) (told : Option News) (p : Option Packet) → LoadTold generation (metadata_of range) w i m.sent (request d) m.stand told c p → (groups : List Group) →
        RuleGoes generation range w i m l d (metadata_news d (with_metadata c) groups (stages.Checking kinds.Metadata) told (option_to_list p))
    metadata_checking c None p g groups = metadata_waits c p g
    metadata_checking c (Some news.Fenced) p g groups = dropped_both generation range w i both m l d by (with_metadata c)
    metadata_checking c (Some (news.Appended e offset)) p g groups = metadata_silent c p g
    metadata_checking c (Some (news.Checked e found)) p g groups = reads_metadata_both generation range w i both m l d by (with_metadata c) (reads_now c p g) 0
    metadata_checking c (Some (news.Sealed e n)) p g groups = reads_metadata_both generation range w i both m l d by (with_metadata c) (reads_now c p g) 0
    metadata_checking c (Some (news.Content e upto)) p g groups = metadata_silent c p g

    metadata_reading : (position : ℕ) (c : ClientState) (told : Option News) (p : Option Packet) → LoadTold generation (metadata_of range) w i m.sent (request d) m.stand told c p → (groups : List Group) →
        RuleGoes generation range w i m l d (metadata_news d (with_metadata c) groups (stages.Reading kinds.Metadata position) told (option_to_list p))
    metadata_reading position c None p g groups = metadata_waits c p g
    metadata_reading position c (Some news.Fenced) p g groups = dropped_both generation range w i both m l d by (with_metadata c)
    metadata_reading position c (Some (news.Appended e offset)) p g groups = metadata_silent c p g
    metadata_reading position c (Some (news.Checked e found)) p g groups = metadata_silent c p g
    metadata_reading position c (Some (news.Sealed e n)) p g groups = reads_metadata_both generation range w i both m l d by (with_metadata c) (reads_now c p g) position
    metadata_reading position c (Some (news.Content e upto)) p g groups = says_both c p g position (said_after r.said groups)

    module _ (body : Body) (means : Means generation (metadata_of range) w m.stand.state m.sent body) where
      abbrev metadata_outcome : Outcome
      metadata_outcome = reply_rule (picking d r.metadata) (request d) body

      metadata_told : LoadTold generation (metadata_of range) w i m.sent (request d) m.stand metadata_outcome.news metadata_outcome.after metadata_outcome.packet
      metadata_told =
          load_goes generation (metadata_of range) w i both.metadata m.sent (request d) (by.metadata d.count (omega arith)) m.stand (picking d r.metadata)
          (picked_loading generation (metadata_of range) w i m.stand m.sent r.metadata d.pick b.metadata) body means

      -- nothing of it is served yet
      metadata_at : (s : Stage) → r.stage ≡ s → is_serving s ≡ false →
          RuleGoes generation range w i m l d
          (metadata_news d (with_metadata metadata_outcome.after) (groups_of body) s metadata_outcome.news (option_to_list metadata_outcome.packet)) → RuleGoes generation range w i m l d (metadata_reply d r body)
      metadata_at s stage unserved rule =
          subst (λ z. RuleGoes generation range w i m l d
          (if is_serving z then record_told d (with_metadata metadata_outcome.after) r.control metadata_outcome.news (option_to_list metadata_outcome.packet)
          else metadata_news d (with_metadata metadata_outcome.after) (groups_of body) z metadata_outcome.news (option_to_list metadata_outcome.packet))) (sym stage)
          (subst (λ t. RuleGoes generation range w i m l d
          (if t then record_told d (with_metadata metadata_outcome.after) r.control metadata_outcome.news (option_to_list metadata_outcome.packet)
          else metadata_news d (with_metadata metadata_outcome.after) (groups_of body) s metadata_outcome.news (option_to_list metadata_outcome.packet))) (sym unserved) rule)

  -- ---- the log

  module _ (b : LoadsLog generation range w i m l r)
      (keeps : (n k : Side) (s : RangeState) → s.stage ≡ r.stage → LoadsLog generation range w i n k s → StageIs generation range w i n k s s.stage) where
    abbrev with_log : ClientState → RangeState
    with_log c = record r { log = c }

    log_waits : (c : ClientState) (p : Option Packet) → Goes generation (log_of range) w i l.stand l.sent (request d) (λ y more. LoadingIs generation (log_of range) w i y more c) p →
        RuleGoes generation range w i m l d (goes d (with_log c) (option_to_list p) [])
    log_waits c p went =
        log_step generation range w i both m l d by (with_log c) p _ went
        (record { range_is = range_is; under = under; calm = λ u. calm; rows = rows_idle range w m.sent l.sent _ _ r.rows calm.0 rows; stage = keeps m _ (with_log c) refl (record { phase = b.phase; metadata = b.metadata; metadata_idle = b.metadata_idle; log = went.then }) })

    log_silent : (c : ClientState) (p : Option Packet) → LoadsNow generation (log_of range) w i l.stand l.sent c p →
        RuleGoes generation range w i m l d (goes d (with_log c) (option_to_list p) [])
    log_silent c p now =
        subst (λ z. RuleGoes generation range w i m l d (goes d (with_log c) (option_to_list z) [])) (sym now.silent)
        (log_waits c None (rests generation (log_of range) w i l.stand l.sent (request d) _ now.loading))

    read_now : (c : ClientState) (p : Option Packet) → LoadsNow generation (log_of range) w i l.stand l.sent c p → AllRead generation range w i m l d by (with_log c)
    read_now c p now = record { range_is = range_is; under = under; calm = calm; rows = rows; metadata = b.metadata; metadata_idle = b.metadata_idle; log = now.loading; log_idle = now.idle }

    log_checking : (c : ClientState) (told : Option News) (p : Option Packet) → LoadTold generation (log_of range) w i l.sent (request d) l.stand told c p → (groups : List Group) →
        RuleGoes generation range w i m l d (log_news d (with_log c) groups (stages.Checking kinds.Log) told (option_to_list p))
    log_checking c None p g groups = log_waits c p g
    log_checking c (Some news.Fenced) p g groups = dropped_both generation range w i both m l d by (with_log c)
    log_checking c (Some (news.Appended e offset)) p g groups = log_silent c p g
    log_checking c (Some (news.Checked e found)) p g groups =
        reads_log_from_both generation range w i both m l d by (with_log c) (read_now c p g) b.phase (first_position (with_log c) r.regions)
    log_checking c (Some (news.Sealed e n)) p g groups =
        reads_log_from_both generation range w i both m l d by (with_log c) (read_now c p g) b.phase (first_position (with_log c) r.regions)
    log_checking c (Some (news.Content e upto)) p g groups = log_silent c p g

    log_reading : (position : ℕ) (c : ClientState) (told : Option News) (p : Option Packet) → LoadTold generation (log_of range) w i l.sent (request d) l.stand told c p → (groups : List Group) →
        RuleGoes generation range w i m l d (log_news d (with_log c) groups (stages.Reading kinds.Log position) told (option_to_list p))
    log_reading position c None p g groups = log_waits c p g
    log_reading position c (Some news.Fenced) p g groups = dropped_both generation range w i both m l d by (with_log c)
    log_reading position c (Some (news.Appended e offset)) p g groups = log_silent c p g
    log_reading position c (Some (news.Checked e found)) p g groups = log_silent c p g
    log_reading position c (Some (news.Sealed e n)) p g groups = reads_log_both generation range w i both m l d by (with_log c) (read_now c p g) b.phase position
    log_reading position c (Some (news.Content e upto)) p g groups = log_read_both generation range w i both m l d by (with_log c) (read_now c p g) b.phase position e groups

    module _ (body : Body) (means : Means generation (log_of range) w l.stand.state l.sent body) (follows : Follows generation range w i m l r) where
      abbrev log_outcome : Outcome
      log_outcome = reply_rule (picking d r.log) (request d) body

      log_told : LoadTold generation (log_of range) w i l.sent (request d) l.stand log_outcome.news log_outcome.after log_outcome.packet
      log_told =
          load_goes generation (log_of range) w i both.log l.sent (request d) (by.log d.count (omega arith)) l.stand (picking d r.log)
          (picked_loading generation (log_of range) w i l.stand l.sent r.log d.pick b.log) body means

      log_at : (s : Stage) → r.stage ≡ s → is_serving s ≡ false →
          RuleGoes generation range w i m l d
          (log_news d (with_log log_outcome.after) (groups_of body) s log_outcome.news (option_to_list log_outcome.packet)) → RuleGoes generation range w i m l d (log_reply d r body)
      log_at s stage unserved rule = go (is_taken r body)
        where
          taken : RuleGoes generation range w i m l d (log_taken d r body)
          taken =
              subst (λ z. RuleGoes generation range w i m l d
              (if is_serving z then serving_news d (with_log log_outcome.after) log_outcome.news (option_to_list log_outcome.packet)
              else log_news d (with_log log_outcome.after) (groups_of body) z log_outcome.news (option_to_list log_outcome.packet))) (sym stage)
              (subst (λ t. RuleGoes generation range w i m l d
              (if t then serving_news d (with_log log_outcome.after) log_outcome.news (option_to_list log_outcome.packet)
              else log_news d (with_log log_outcome.after) (groups_of body) s log_outcome.news (option_to_list log_outcome.packet))) (sym unserved) rule)

          go : (t : Bool) → RuleGoes generation range w i m l d (if t then log_taken d r body else answers d r [])
          go true = taken
          go false = still_both generation range w i both m l d by r d.count [] follows (omega arith) tt

-- ---- the answers

module _ (generation : ℕ → ℕ) (range : ℕ) (w : StreamSystem) (i : ℕ) (both : BothListed w range) (m l : Side) (d : ServerContext) (by : IsSentBy d d.count m.sent l.sent)
    (r : RangeState) (f : Follows generation range w i m l r) (body : Body) where
  metadata_at_checking : r.stage ≡ stages.Checking kinds.Metadata → LoadsMetadata generation range w i m l r → Means generation (metadata_of range) w m.stand.state m.sent body →
      RuleGoes generation range w i m l d (metadata_reply d r body)
  metadata_at_checking e b means =
      metadata_at generation range w i both m l d by r f.range_is f.under (f.calm (ap is_serving e)) f.rows b keeps body means (stages.Checking kinds.Metadata) e refl
      (metadata_checking generation range w i both m l d by r f.range_is f.under (f.calm (ap is_serving e)) f.rows b keeps _ _ _ (metadata_told generation range w i both m l d by r f.range_is f.under (f.calm (ap is_serving e)) f.rows b keeps body means) (groups_of body))
    where
      keeps : (n k : Side) (s : RangeState) → s.stage ≡ r.stage → LoadsMetadata generation range w i n k s → StageIs generation range w i n k s s.stage
      keeps n k s same z = subst (λ g. StageIs generation range w i n k s g) (sym (same ∙ e)) z

  metadata_at_reading : (position : ℕ) → r.stage ≡ stages.Reading kinds.Metadata position → LoadsMetadata generation range w i m l r → Means generation (metadata_of range) w m.stand.state m.sent body →
      RuleGoes generation range w i m l d (metadata_reply d r body)
  metadata_at_reading position e b means =
      metadata_at generation range w i both m l d by r f.range_is f.under (f.calm (ap is_serving e)) f.rows b keeps body means (stages.Reading kinds.Metadata position) e refl
      (metadata_reading generation range w i both m l d by r f.range_is f.under (f.calm (ap is_serving e)) f.rows b keeps position _ _ _ (metadata_told generation range w i both m l d by r f.range_is f.under (f.calm (ap is_serving e)) f.rows b keeps body means) (groups_of body))
    where
      keeps : (n k : Side) (s : RangeState) → s.stage ≡ r.stage → LoadsMetadata generation range w i n k s → StageIs generation range w i n k s s.stage
      keeps n k s same z = subst (λ g. StageIs generation range w i n k s g) (sym (same ∙ e)) z

  log_at_checking : r.stage ≡ stages.Checking kinds.Log → LoadsLog generation range w i m l r → Means generation (log_of range) w l.stand.state l.sent body → RuleGoes generation range w i m l d (log_reply d r body)
  log_at_checking e b means =
      log_at generation range w i both m l d by r f.range_is f.under (f.calm (ap is_serving e)) f.rows b keeps body means f (stages.Checking kinds.Log) e refl
      (log_checking generation range w i both m l d by r f.range_is f.under (f.calm (ap is_serving e)) f.rows b keeps _ _ _ (log_told generation range w i both m l d by r f.range_is f.under (f.calm (ap is_serving e)) f.rows b keeps body means f) (groups_of body))
    where
      keeps : (n k : Side) (s : RangeState) → s.stage ≡ r.stage → LoadsLog generation range w i n k s → StageIs generation range w i n k s s.stage
      keeps n k s same z = subst (λ g. StageIs generation range w i n k s g) (sym (same ∙ e)) z

  log_at_reading : (position : ℕ) → r.stage ≡ stages.Reading kinds.Log position → LoadsLog generation range w i m l r → Means generation (log_of range) w l.stand.state l.sent body →
      RuleGoes generation range w i m l d (log_reply d r body)
  log_at_reading position e b means =
      log_at generation range w i both m l d by r f.range_is f.under (f.calm (ap is_serving e)) f.rows b keeps body means f (stages.Reading kinds.Log position) e refl
      (log_reading generation range w i both m l d by r f.range_is f.under (f.calm (ap is_serving e)) f.rows b keeps position _ _ _ (log_told generation range w i both m l d by r f.range_is f.under (f.calm (ap is_serving e)) f.rows b keeps body means f) (groups_of body))
    where
      keeps : (n k : Side) (s : RangeState) → s.stage ≡ r.stage → LoadsLog generation range w i n k s → StageIs generation range w i n k s s.stage
      keeps n k s same z = subst (λ g. StageIs generation range w i n k s g) (sym (same ∙ e)) z

  -- who has no job waits for nothing
  none_awaited : (j : Job) (v : ReqNo) → j ≡ jobs.Idle → awaits j v ≡ true → ⊥
  none_awaited j v idle t = let z : false ≡ true = subst (λ k. awaits k v ≡ true) idle t in cc

  -- an answer that the metadata's client waits for, which means what it says; where the range is served that is another's
  pub metadata_news_by : (r.stage ≡ stages.Serving → RuleGoes generation range w i m l d (metadata_reply d r body)) → (v : ReqNo) → awaits r.metadata.job v ≡ true → Means generation (metadata_of range) w m.stand.state m.sent body → RuleGoes generation range w i m l d (metadata_reply d r body)
  metadata_news_by served v waits means = go r.stage refl f.stage
    where
      go : (s : Stage) → r.stage ≡ s → StageIs generation range w i m l r s → RuleGoes generation range w i m l d (metadata_reply d r body)
      go stages.Opening e b = absurd (none_awaited r.metadata.job v b.metadata_idle waits)
      go (stages.Checking kinds.Metadata) e b = metadata_at_checking e b means
      go (stages.Checking kinds.Log) e b = absurd (none_awaited r.metadata.job v b.metadata_idle waits)
      go (stages.Checking kinds.RowData) e b = absurd b
      go (stages.Checking kinds.BlobData) e b = absurd b
      go (stages.Reading kinds.Metadata position) e b = metadata_at_reading position e b means
      go (stages.Reading kinds.Log position) e b = absurd (none_awaited r.metadata.job v b.metadata_idle waits)
      go (stages.Reading kinds.RowData position) e b = absurd b
      go (stages.Reading kinds.BlobData position) e b = absurd b
      go (stages.Indexing position) e b = absurd (none_awaited r.metadata.job v b.metadata_idle waits)
      go stages.Confirming e b = absurd (none_awaited r.metadata.job v b.metadata.idle waits)
      go stages.Serving e b = served e

  -- an answer that the log's client waits for, which means what it says; where the range is served that is another's
  pub log_news_by : (r.stage ≡ stages.Serving → RuleGoes generation range w i m l d (log_reply d r body)) → (v : ReqNo) → awaits r.log.job v ≡ true → Means generation (log_of range) w l.stand.state l.sent body → RuleGoes generation range w i m l d (log_reply d r body)
  log_news_by served v waits means = go r.stage refl f.stage
    where
      go : (s : Stage) → r.stage ≡ s → StageIs generation range w i m l r s → RuleGoes generation range w i m l d (log_reply d r body)
      go stages.Opening e b = absurd (none_awaited r.log.job v b.log_idle waits)
      go (stages.Checking kinds.Metadata) e b = absurd (none_awaited r.log.job v b.log.idle waits)
      go (stages.Checking kinds.Log) e b = log_at_checking e b means
      go (stages.Checking kinds.RowData) e b = absurd b
      go (stages.Checking kinds.BlobData) e b = absurd b
      go (stages.Reading kinds.Metadata position) e b = absurd (none_awaited r.log.job v b.log.idle waits)
      go (stages.Reading kinds.Log position) e b = log_at_reading position e b means
      go (stages.Reading kinds.RowData position) e b = absurd b
      go (stages.Reading kinds.BlobData position) e b = absurd b
      go (stages.Indexing position) e b = absurd (none_awaited r.log.job v b.log_idle waits)
      go stages.Confirming e b = absurd (none_awaited r.log.job v b.log.idle waits)
      go stages.Serving e b = served e
