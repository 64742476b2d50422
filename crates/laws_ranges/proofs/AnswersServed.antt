-- Any answer to a range that is served, where each of its streams and its row data may have an append job, and a Trim may be out.
use Rattle.std.proofs.Common.{◌≡◌, ℕ, List, [], Bool, true, false, Option, Some, None, is_some, refl, subst, if◌then◌else◌}
use Rattle.wire.specs.declared.actor.ReqNo.{ReqNo}
use Rattle.wire.specs.declared.body.Body.{Body}
use Rattle.client.specs.Client.{awaits}
use Rattle.client.specs.Load.{load_awaits}
use Rattle.model_streams.specs.StreamSystem.{StreamSystem}
use Rattle.model_partition.specs.declared.server_context.ServerContext.{ServerContext}
use Rattle.model_partition.specs.declared.stage.Stage.TheVariants as stages
use Rattle.model_partition.specs.Range.{RangeState, RangeOutcome}
use Rattle.model_partition.specs.PlaceReads.{reads_under, reads_page}
use Rattle.model_partition.specs.Checkpoints.{rows_reply, trim_awaits}
use Rattle.model_partition.specs.Answering.{load_reply, metadata_reply, log_reply, is_taken, page_reply, index_reply, trim_reply, gets_reply, answer_rule}
use Rattle.model_histories.specs.StreamActions.{StreamAction, load_actions, metadata_actions, log_actions, rows_actions, bytes_actions, answer_actions}
use Rattle.laws_stream_machine.specs.Refinement.{Means}
use Rattle.laws_loads.specs.RangeView.{RangeView}
use Rattle.laws_ranges.specs.Serves.{Side, metadata_of, log_of, IsCounted, IsPastRows, RowsTold, IsServing, Follows, BothListed, IsSentBy}
use Rattle.laws_ranges.specs.Quiet.{GoesQuietly, AreReads}
use Rattle.laws_ranges.specs.Seen.{RuleSees}
use Rattle.laws_ranges.specs.Records.{ServesBoth, ServedRule}
use Rattle.laws_ranges.proofs.SeenTurns.{quiet_sees}
use Rattle.laws_ranges.proofs.SeenLoads.{kept_reads, bytes_quiet}
use Rattle.laws_ranges.proofs.BothServed.{log_reply_both, metadata_reply_both}
use Rattle.laws_ranges.proofs.ReadIndexes.{index_reply_quietly}
use Rattle.laws_ranges.proofs.ReadPages.{page_reply_quietly}
use Rattle.laws_ranges.proofs.Gets.{gets_reply_quietly}
use Rattle.laws_ranges.proofs.TrimAnswers.{trim_reply_served}
use Rattle.laws_ranges.proofs.KeptRows.{KeepsRowsIf, log_keeps_rows, metadata_keeps_rows, trim_keeps_rows}
use Rattle.laws_ranges.proofs.WholeRanges.{is_served, served_both, served_rest, kept_sees}
use Rattle.laws_ranges.proofs.CheckpointRules.{rows_reply_sees}

none_done : (o : Option RangeState) → ◌≡◌ {A = List StreamAction} [] (if is_some o then [] else [])
none_done None = refl
none_done (Some r) = refl

module _ (generation : ℕ → ℕ) (range : ℕ) (w : StreamSystem) (i : ℕ) (both : BothListed w range) (m l : Side) (d : ServerContext) (by : IsSentBy d d.count m.sent l.sent) (v : RangeView)
    (r : RangeState) (f : Follows generation range w i m l r) (stage : r.stage ≡ stages.Serving) (past : IsPastRows d r) where
  abbrev Does : RangeOutcome → List StreamAction → Type 0
  Does o done = RuleSees generation i range w v m l d o done

  -- what is done where the range is not dropped
  abbrev DoesIf : RangeOutcome → List StreamAction → Type 0
  DoesIf o done = Does o (if is_some o.after then done else [])

  b : ServesBoth generation range w i m l r
  b = served_both generation range w i m l r f stage

  s : IsServing generation range w i m l r
  s = is_served generation range w i m l r f stage

  -- a rule that leaves row data
  kept : (o : RangeOutcome) (done : List StreamAction) → ServedRule generation range w i v m l d o done → KeepsRowsIf r o.after → Does o done
  kept o done rule k = kept_sees generation range w i m l d r f.rows past v o done rule k

  quiet : (o : RangeOutcome) (done : List StreamAction) → GoesQuietly generation range w i m l d o → AreReads done → DoesIf o done
  quiet o done goes reads = quiet_sees generation range w i v m l d o (if is_some o.after then done else []) goes (kept_reads o.after done reads)

  module _ (metadata_counted : IsCounted i m.stand) (log_counted : IsCounted i l.stand) (u : ReqNo) (body : Body)
      (one : Means generation (metadata_of range) w m.stand.state m.sent body) (two : Means generation (log_of range) w l.stand.state l.sent body) (told : RowsTold w range r body) where
    abbrev trim_or_later : RangeOutcome
    trim_or_later = if trim_awaits r.control u then trim_reply d r body else gets_reply d r u body

    -- the bytes of a page or of an index
    abbrev place_reply : RangeOutcome
    place_reply = if reads_page r.reading then page_reply d r body else index_reply d r body

    abbrev index_or_later : RangeOutcome
    index_or_later = if reads_under r.reading u then place_reply else trim_or_later

    abbrev rows_or_later : RangeOutcome
    rows_or_later = if awaits r.rows.job u then rows_reply d r body else index_or_later

    abbrev log_or_later : RangeOutcome
    log_or_later = if awaits r.log.job u then log_reply d r body else rows_or_later

    abbrev trim_part : List StreamAction
    trim_part = if trim_awaits r.control u then [] else bytes_actions body

    abbrev index_part : List StreamAction
    index_part = if reads_under r.reading u then bytes_actions body else trim_part

    abbrev rows_part : List StreamAction
    rows_part = if awaits r.rows.job u then rows_actions d r body else index_part

    trim_sixth : (t : Bool) → DoesIf (if t then trim_reply d r body else gets_reply d r u body) (if t then [] else bytes_actions body)
    trim_sixth true =
        subst (λ done. Does (trim_reply d r body) done) (none_done (trim_reply d r body).after)
        (kept (trim_reply d r body) [] (trim_reply_served generation range w i both m l d by v r b s.trims body) (trim_keeps_rows d r s.position s.trims body))
    trim_sixth false = quiet (gets_reply d r u body) (bytes_actions body) (gets_reply_quietly generation range w i both m l d by r f u body) (bytes_quiet body)

    page_or_index : (t : Bool) → DoesIf (if t then page_reply d r body else index_reply d r body) (bytes_actions body)
    page_or_index true = quiet (page_reply d r body) (bytes_actions body) (page_reply_quietly generation range w i both m l d by r f stage body) (bytes_quiet body)
    page_or_index false = quiet (index_reply d r body) (bytes_actions body) (index_reply_quietly generation range w i both m l d by r f stage body) (bytes_quiet body)

    index_fifth : (t : Bool) → DoesIf (if t then place_reply else trim_or_later) (if t then bytes_actions body else trim_part)
    index_fifth true = page_or_index (reads_page r.reading)
    index_fifth false = trim_sixth (trim_awaits r.control u)

    rows_fourth : (t : Bool) → DoesIf (if t then rows_reply d r body else index_or_later) (if t then rows_actions d r body else index_part)
    rows_fourth true = rows_reply_sees generation range w i both m l d by v r b (served_rest generation range w i m l r f stage) body told
    rows_fourth false = index_fifth (reads_under r.reading u)

    log_third : (t : Bool) →
        (let o : RangeOutcome = if t then log_reply d r body else rows_or_later in DoesIf o (if t then (if is_taken r body then log_actions d r body o else []) else rows_part))
    log_third true =
        kept (log_reply d r body) _ (log_reply_both generation range w i both m l d by v r b log_counted body two) (log_keeps_rows d r s.position s.trims stage s.log.told.tells.ends body)
    log_third false = rows_fourth (awaits r.rows.job u)

    metadata_second : (t : Bool) →
        (let o : RangeOutcome = if t then metadata_reply d r body else log_or_later in
        DoesIf o (if t then metadata_actions d r body else if awaits r.log.job u then (if is_taken r body then log_actions d r body o else []) else rows_part))
    metadata_second true =
        kept (metadata_reply d r body) _ (metadata_reply_both generation range w i both m l d by v r b metadata_counted body one) (metadata_keeps_rows d r s.position s.trims stage body)
    metadata_second false = log_third (awaits r.log.job u)

    load_first : (t : Bool) → load_awaits r.load.phase u ≡ t →
        (let o : RangeOutcome = if t then load_reply d r body else if awaits r.metadata.job u then metadata_reply d r body else log_or_later in
        DoesIf o (if t then load_actions r body else if awaits r.metadata.job u then metadata_actions d r body else if awaits r.log.job u then (if is_taken r body then log_actions d r body o else []) else rows_part))
    load_first true e = absurd (let z : false ≡ true = subst (λ p. load_awaits p u ≡ true) b.phase e in cc)
    load_first false e = metadata_second (awaits r.metadata.job u)

    -- the answer of a number, as both streams mean it
    pub answer_served : Does (answer_rule d r u body) (answer_actions d r u body (answer_rule d r u body))
    answer_served = load_first (load_awaits r.load.phase u) refl
