-- The streams of a range are opened: its metadata is checked and read, and then its log, as both streams see it.
use Rattle.std.proofs.Common.{◌≡◌, Contains, ℕ, length, Bool, true, false, not, ◌&&◌, nat_lt, Option, Some, None, is_some, refl, sym, ap, ◌∙◌, subst, arith, if◌then◌else◌}
use Rattle.wire.specs.declared.actor.ReqNo.{ReqNo}
use Rattle.wire.specs.declared.body.Body.TheVariants as bodies
use Rattle.wire.specs.declared.body.StreamBody.TheVariants as streams
use Rattle.wire.specs.declared.streams.StreamExtent.{StreamExtent}
use Rattle.wire.specs.declared.streams.StreamKind.TheVariants as kinds
use Rattle.wire.specs.declared.streams.StreamLists.{StreamLists}
use Rattle.client.specs.declared.job.Job.TheVariants as jobs
use Rattle.client.specs.declared.load.LoadPhase.TheVariants as phases
use Rattle.client.specs.Client.{Outcome, new_client, last_extent, check_rule}
use Rattle.client.specs.Requests.{is_same}
use Rattle.metadata.specs.Fold.{first_metadata}
use Rattle.model_streams.specs.StreamSystem.{StreamSystem}
use Rattle.model_partition.specs.declared.server_context.ServerContext.{ServerContext}
use Rattle.model_partition.specs.declared.stage.Stage.TheVariants as stages
use Rattle.model_partition.specs.Range.{RangeState, dropped, given, picking, request}
use Rattle.model_partition.specs.Loading.{read_of, metadata_goes, log_goes, reads_log_from, checks_log, begins_log, reads_metadata, begins_metadata, opens, first_position, open_region}
use Rattle.laws_stream_machine.specs.Refinement.{Opens, purpose_of, Means, StreamMeans}
use Rattle.laws_stream_machine.proofs.ServerRequests.{same_request}
use Rattle.laws_ranges.specs.Serves.{rows_of, IsOfRows, RowsStand, HasNoCheckpoint, Side, is_live, metadata_of, log_of, LoadingIs, UnreadIs, IsOpening, Goes, BothListed, IsSentBy, RuleGoes}
use Rattle.laws_ranges.proofs.RowData.{rows_idle}
use Rattle.laws_ranges.proofs.OpenAndConfirm.{readable_goes}
use Rattle.laws_ranges.proofs.Confirmed.{dropped_both}
use Rattle.laws_ranges.proofs.BothStreamsAtOnce.{AllRead}
use Rattle.laws_ranges.proofs.ReadLog.{reads_log_from_both}
use Rattle.laws_ranges.proofs.ServerPick.{check_goes, reading_goes}
use Rattle.laws_ranges.proofs.BothStreams.{log_step, metadata_step}

-- an extent that has a length is not open
shut_live : (z : StreamExtent) (n : ℕ) → z.length ≡ Some n → is_live (Some z) ≡ false
shut_live z n e = ap (λ k. not (is_some k)) e

module _ (generation : ℕ → ℕ) (range : ℕ) (w : StreamSystem) (i : ℕ) (both : BothListed w range) (m l : Side) (d : ServerContext) (by : IsSentBy d d.count m.sent l.sent) where
  -- nothing is out of the metadata, which can be read, and the log waits
  pub record ReadsMetadata (r : RangeState) : Type 0 where
    pub range_is : r.load.range ≡ range
    pub under : r.load.generation ≡ generation i
    pub calm : HasNoCheckpoint r
    pub rows : RowsStand range w m.sent l.sent r.rows
    pub phase : r.load.phase ≡ phases.Opened
    pub metadata : LoadingIs generation (metadata_of range) w i m.stand m.sent r.metadata
    pub metadata_idle : r.metadata.job ≡ jobs.Idle
    pub log : UnreadIs generation (log_of range) w i l.stand l.sent r.log

  -- both streams are opened
  pub record BothUnread (r : RangeState) : Type 0 where
    pub range_is : r.load.range ≡ range
    pub under : r.load.generation ≡ generation i
    pub calm : HasNoCheckpoint r
    pub rows : RowsStand range w m.sent l.sent r.rows
    pub phase : r.load.phase ≡ phases.Opened
    pub metadata : UnreadIs generation (metadata_of range) w i m.stand m.sent r.metadata
    pub log : UnreadIs generation (log_of range) w i l.stand l.sent r.log

  -- ---- the log

  all_read : (r : RangeState) → ReadsMetadata r → is_live (last_extent r.log.extents) ≡ false → AllRead generation range w i m l d by r
  all_read r b live =
      record {
        range_is = b.range_is;
        under = b.under;
        calm = b.calm;
        rows = b.rows;
        metadata = b.metadata;
        metadata_idle = b.metadata_idle;
        log = readable_goes generation (log_of range) w i l.sent (request d) (by.log d.count (omega arith)) l.stand r.log b.log live;
        log_idle = b.log.idle;
      }

  log_read_from : (r : RangeState) → ReadsMetadata r → is_live (last_extent r.log.extents) ≡ false → RuleGoes generation range w i m l d (reads_log_from d r (first_position r r.regions))
  log_read_from r b live = reads_log_from_both generation range w i both m l d by r (all_read r b live) b.phase (first_position r r.regions)

  -- its last extent is checked
  log_checked : (r : RangeState) → ReadsMetadata r → (z : StreamExtent) → last_extent r.log.extents ≡ Some z → z.length ≡ None →
      RuleGoes generation range w i m l d (log_goes d r (stages.Checking kinds.Log) (given (picking d r.log) (check_rule (picking d r.log) (request d))))
  log_checked r b z e none =
      let o : Outcome = given (picking d r.log) (check_rule (picking d r.log) (request d)) in
      let went : Goes generation (log_of range) w i l.stand l.sent (request d) (λ y more. LoadingIs generation (log_of range) w i y more o.after) o.packet =
      check_goes generation (log_of range) w i both.log l.sent d (by.log d.count (omega arith)) l.stand r.log b.log z e none in
      log_step generation range w i both m l d by (record r { stage = stages.Checking kinds.Log; log = o.after }) o.packet _ went
      (record { range_is = b.range_is; under = b.under; calm = λ u. b.calm; rows = rows_idle range w m.sent l.sent _ _ r.rows b.calm.0 b.rows; stage = record { phase = b.phase; metadata = b.metadata; metadata_idle = b.metadata_idle; log = went.then } })

  checks_log_both : (r : RangeState) → ReadsMetadata r → (o : Option StreamExtent) → last_extent r.log.extents ≡ o → RuleGoes generation range w i m l d (checks_log d r o)
  checks_log_both r b None e = log_read_from r b (ap is_live e)
  checks_log_both r b (Some z) e = go z.length refl
    where
      go : (k : Option ℕ) → z.length ≡ k →
          RuleGoes generation range w i m l d
          (if is_some k then reads_log_from d r (first_position r r.regions)
          else log_goes d r (stages.Checking kinds.Log) (given (picking d r.log) (check_rule (picking d r.log) (request d))))
      go (Some n) s = log_read_from r b (ap is_live e ∙ shut_live z n s)
      go None s = log_checked r b z e s

  begins_log_both : (r : RangeState) → ReadsMetadata r → RuleGoes generation range w i m l d (begins_log d r)
  begins_log_both r b = go (is_some (open_region r.said.regions) && is_some (first_position r r.said.regions))
    where
      now : RangeState
      now = record r { regions = r.said.regions }

      go : (t : Bool) → RuleGoes generation range w i m l d (if t then checks_log d (record r { regions = r.said.regions }) (last_extent r.log.extents) else dropped d r)
      go true =
          checks_log_both now
          (record { range_is = b.range_is; under = b.under; calm = b.calm; rows = b.rows; phase = b.phase; metadata = b.metadata; metadata_idle = b.metadata_idle; log = b.log })
          (last_extent r.log.extents) refl
      go false = dropped_both generation range w i both m l d by r

  -- ---- the metadata

  -- its next extent is read, or all is read
  pub reads_metadata_both : (r : RangeState) → ReadsMetadata r → (position : ℕ) → RuleGoes generation range w i m l d (reads_metadata d r position)
  reads_metadata_both r b position = go (nat_lt position (length r.metadata.extents))
    where
      o : Outcome
      o = read_of d (picking d r.metadata) position

      went : Goes generation (metadata_of range) w i m.stand m.sent (request d) (λ y more. LoadingIs generation (metadata_of range) w i y more o.after) o.packet
      went = reading_goes generation (metadata_of range) w i both.metadata m.sent d (by.metadata d.count (omega arith)) m.stand r.metadata b.metadata b.metadata_idle position

      go : (t : Bool) → RuleGoes generation range w i m l d
          (if t then metadata_goes d r (stages.Reading kinds.Metadata position) (read_of d (picking d r.metadata) position) else begins_log d r)
      go true =
          metadata_step generation range w i both m l d by (record r { stage = stages.Reading kinds.Metadata position; metadata = o.after }) o.packet _ went
          (record { range_is = b.range_is; under = b.under; calm = λ u. b.calm; rows = rows_idle range w m.sent l.sent _ _ r.rows b.calm.0 b.rows; stage = record { phase = b.phase; metadata = went.then; log = b.log } })
      go false = begins_log_both r b

  metadata_checked : (r : RangeState) → BothUnread r → (z : StreamExtent) → last_extent r.metadata.extents ≡ Some z → z.length ≡ None →
      RuleGoes generation range w i m l d (metadata_goes d r (stages.Checking kinds.Metadata) (given (picking d r.metadata) (check_rule (picking d r.metadata) (request d))))
  metadata_checked r b z e none =
      let o : Outcome = given (picking d r.metadata) (check_rule (picking d r.metadata) (request d)) in
      let went : Goes generation (metadata_of range) w i m.stand m.sent (request d) (λ y more. LoadingIs generation (metadata_of range) w i y more o.after) o.packet =
      check_goes generation (metadata_of range) w i both.metadata m.sent d (by.metadata d.count (omega arith)) m.stand r.metadata b.metadata z e none in
      metadata_step generation range w i both m l d by (record r { stage = stages.Checking kinds.Metadata; metadata = o.after }) o.packet _ went
      (record { range_is = b.range_is; under = b.under; calm = λ u. b.calm; rows = rows_idle range w m.sent l.sent _ _ r.rows b.calm.0 b.rows; stage = record { phase = b.phase; metadata = went.then; log = b.log } })

  -- where its last extent is not open it can be read at once
  reads_at_once : (r : RangeState) → BothUnread r → is_live (last_extent r.metadata.extents) ≡ false → ReadsMetadata r
  reads_at_once r b live =
      record {
        range_is = b.range_is;
        under = b.under;
        calm = b.calm;
        rows = b.rows;
        phase = b.phase;
        metadata = readable_goes generation (metadata_of range) w i m.sent (request d) (by.metadata d.count (omega arith)) m.stand r.metadata b.metadata live;
        metadata_idle = b.metadata.idle;
        log = b.log;
      }

  begins_metadata_both : (r : RangeState) → BothUnread r → (o : Option StreamExtent) → last_extent r.metadata.extents ≡ o → RuleGoes generation range w i m l d (begins_metadata d r o)
  begins_metadata_both r b None e = begins_log_both r (reads_at_once r b (ap is_live e))
  begins_metadata_both r b (Some z) e = go z.length refl
    where
      go : (k : Option ℕ) → z.length ≡ k →
          RuleGoes generation range w i m l d
          (if is_some k then reads_metadata d r 0
          else metadata_goes d r (stages.Checking kinds.Metadata) (given (picking d r.metadata) (check_rule (picking d r.metadata) (request d))))
      go (Some n) s = reads_metadata_both r (reads_at_once r b (ap is_live e ∙ shut_live z n s)) 0
      go None s = metadata_checked r b z e s

  -- ---- both are opened

  -- the answer to the opening, as both streams mean it
  pub opens_both : (r : RangeState) → r.load.range ≡ range → r.load.generation ≡ generation i → HasNoCheckpoint r → (b : IsOpening generation range w i m l r) (v : ReqNo) (lists : StreamLists) → is_same b.q v ≡ true →
      Means generation (metadata_of range) w m.stand.state m.sent (bodies.Stream (streams.Opened v lists)) →
      Means generation (log_of range) w l.stand.state l.sent (bodies.Stream (streams.Opened v lists)) →
      ((x : StreamExtent) → Contains lists.row_data.extents x → IsOfRows w range x.extent) → RuleGoes generation range w i m l d (opens d r lists)
  opens_both r range_is under calm b v lists same one two listed =
      let e : b.q ≡ v = same_request b.q v same in
      let metadata_means : StreamMeans generation (metadata_of range) w m.stand.state m.sent (Some (Opens i)) (streams.Opened v lists) =
      subst (λ z. StreamMeans generation (metadata_of range) w m.stand.state m.sent z (streams.Opened v lists)) (ap (λ k. purpose_of m.sent k) (sym e) ∙ b.metadata.for) one in
      let log_means : StreamMeans generation (log_of range) w l.stand.state l.sent (Some (Opens i)) (streams.Opened v lists) =
      subst (λ z. StreamMeans generation (log_of range) w l.stand.state l.sent z (streams.Opened v lists)) (ap (λ k. purpose_of l.sent k) (sym e) ∙ b.log.for) two in
      begins_metadata_both
      (record r {
        load = record r.load { phase = phases.Opened };
        metadata = new_client d.server (record { range = r.load.range; kind = kinds.Metadata }) r.load.generation lists.metadata d.pick;
        log = new_client d.server (record { range = r.load.range; kind = kinds.Log }) r.load.generation lists.log d.pick;
        rows = new_client d.server (record { range = r.load.range; kind = kinds.RowData }) r.load.generation lists.row_data d.pick;
        blob_data = lists.blob_data;
        said = first_metadata;
      })
      (record {
        range_is = range_is;
        under = under;
        calm = (refl, calm.1);
        rows = record { stream = ap rows_of range_is; listed = listed; job = tt };
        phase = refl;
        metadata = record {
          told = record {
            stream = ap metadata_of range_is;
            under = under;
            tells = record {
              left = metadata_means.1.left;
              whole = metadata_means.1.whole;
              ends = metadata_means.1.ends;
              known = metadata_means.1.known;
              are = metadata_means.1.are;
              sealed = metadata_means.1.sealed;
              unsealed = metadata_means.1.unsealed;
            };
          };
          opened = metadata_means.0;
          idle = refl;
          stands = b.metadata.stands;
        };
        log = record {
          told = record {
            stream = ap log_of range_is;
            under = under;
            tells = record {
              left = log_means.1.left;
              whole = log_means.1.whole;
              ends = log_means.1.ends;
              known = log_means.1.known;
              are = log_means.1.are;
              sealed = log_means.1.sealed;
              unsealed = log_means.1.unsealed;
            };
          };
          opened = log_means.0;
          idle = refl;
          stands = b.log.stands;
        };
      })
      (last_extent lists.metadata.extents) refl
