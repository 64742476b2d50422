-- What a range that is not served does with an answer that it waits for, as both streams see it.
use Rattle.std.proofs.Common.{◌≡◌, ℕ, Bool, true, false, Some, refl, sym, ap, ◌∙◌, subst, if◌then◌else◌}
use Rattle.wire.specs.declared.actor.ReqNo.{ReqNo}
use Rattle.wire.specs.declared.body.Body.{Body}
use Rattle.client.specs.Client.{awaits}
use Rattle.client.specs.Load.{load_awaits}
use Rattle.model_streams.specs.StreamSystem.{StreamSystem}
use Rattle.model_partition.specs.declared.server_context.ServerContext.{ServerContext}
use Rattle.model_partition.specs.declared.stage.Stage.TheVariants as stages
use Rattle.model_partition.specs.Range.{RangeState, RangeOutcome, is_serving}
use Rattle.model_partition.specs.PlaceReads.{reads_under, reads_page}
use Rattle.model_partition.specs.Answering.{answered_number, load_reply, metadata_reply, log_reply, page_reply, index_reply, trim_reply, gets_reply, answer_rule}
use Rattle.model_partition.specs.Checkpoints.{rows_reply, trim_awaits}
use Rattle.laws_stream_machine.specs.Refinement.{Means}
use Rattle.laws_ranges.specs.Serves.{IsConfirming, BeginsRightly, RowsTold, Side, metadata_of, log_of, Follows, BothListed, IsSentBy, RuleGoes}
use Rattle.laws_ranges.proofs.Confirmed.{confirmed_all}
use Rattle.laws_ranges.proofs.LoadNews.{metadata_news_by, log_news_by}
use Rattle.laws_ranges.proofs.OpenedOrConfirmed.{load_reply_by}
use Rattle.laws_ranges.proofs.ReadIndexes.{index_reply_both}
use Rattle.laws_ranges.proofs.ReadPages.{page_reply_both}
use Rattle.laws_ranges.proofs.Gets.{gets_reply_quietly}

module _ (generation : ℕ → ℕ) (range : ℕ) (w : StreamSystem) (i : ℕ) (both : BothListed w range) (m l : Side) (d : ServerContext) (by : IsSentBy d d.count m.sent l.sent)
    (r : RangeState) (f : Follows generation range w i m l r) (unserved : is_serving r.stage ≡ false) (begins : IsConfirming generation range w i m l r → BeginsRightly r) where
  is_unserved : r.stage ≡ stages.Serving → ⊥
  is_unserved e = let z : true ≡ false = sym (ap is_serving e) ∙ unserved in cc

  -- an answer that the load waits for, which means what it says to both streams
  load_reply_both : (v : ReqNo) → load_awaits r.load.phase v ≡ true → (body : Body) → answered_number body ≡ Some v → Means generation (metadata_of range) w m.stand.state m.sent body →
      Means generation (log_of range) w l.stand.state l.sent body → RowsTold w range r body → RuleGoes generation range w i m l d (load_reply d r body)
  load_reply_both v waits body number one two told =
      load_reply_by generation range w i both m l d by r f (λ b u same a z. (confirmed_all generation range w i both m l d by r b f.range_is f.under (f.calm unserved) f.rows (begins b) u same a z).0) v waits body number one two told

  module _ (v : ReqNo) (body : Body) where
    -- the bytes of a page or of an index
    abbrev place_reply : RangeOutcome
    place_reply = if reads_page r.reading then page_reply d r body else index_reply d r body

    -- what an answer to none of both clients leads to
    abbrev index_or_later : RangeOutcome
    index_or_later = if reads_under r.reading v then place_reply else if trim_awaits r.control v then trim_reply d r body else gets_reply d r v body

    abbrev rows_or_later : RangeOutcome
    rows_or_later = if awaits r.rows.job v then rows_reply d r body else index_or_later

  -- the answer of a number, which means what it says to both streams
  pub answer_both : (v : ReqNo) (body : Body) → answered_number body ≡ Some v → Means generation (metadata_of range) w m.stand.state m.sent body →
      Means generation (log_of range) w l.stand.state l.sent body → RowsTold w range r body → RuleGoes generation range w i m l d (answer_rule d r v body)
  answer_both v body number one two told = load_first (load_awaits r.load.phase v) refl
    where
      trim_sixth : (t : Bool) → trim_awaits r.control v ≡ t → RuleGoes generation range w i m l d (if t then trim_reply d r body else gets_reply d r v body)
      trim_sixth true e = absurd (let z : false ≡ true = subst (λ c. trim_awaits c v ≡ true) (f.calm unserved).1 e in cc)
      trim_sixth false e = (gets_reply_quietly generation range w i both m l d by r f v body).goes

      page_or_index : (t : Bool) → RuleGoes generation range w i m l d (if t then page_reply d r body else index_reply d r body)
      page_or_index true = page_reply_both generation range w i both m l d by r f (f.calm unserved) body
      page_or_index false = index_reply_both generation range w i both m l d by r f body

      index_fifth : (t : Bool) → RuleGoes generation range w i m l d (if t then place_reply v body else if trim_awaits r.control v then trim_reply d r body else gets_reply d r v body)
      index_fifth true = page_or_index (reads_page r.reading)
      index_fifth false = trim_sixth (trim_awaits r.control v) refl

      rows_fourth : (t : Bool) → awaits r.rows.job v ≡ t → RuleGoes generation range w i m l d (if t then rows_reply d r body else index_or_later v body)
      rows_fourth true e = absurd (let z : false ≡ true = subst (λ j. awaits j v ≡ true) (f.calm unserved).0 e in cc)
      rows_fourth false e = index_fifth (reads_under r.reading v)

      log_third : (t : Bool) → awaits r.log.job v ≡ t → RuleGoes generation range w i m l d (if t then log_reply d r body else rows_or_later v body)
      log_third true e = log_news_by generation range w i both m l d by r f body (λ served. absurd (is_unserved served)) v e two
      log_third false e = rows_fourth (awaits r.rows.job v) refl

      metadata_second : (t : Bool) → awaits r.metadata.job v ≡ t → RuleGoes generation range w i m l d (if t then metadata_reply d r body else if awaits r.log.job v then log_reply d r body else rows_or_later v body)
      metadata_second true e = metadata_news_by generation range w i both m l d by r f body (λ served. absurd (is_unserved served)) v e one
      metadata_second false e = log_third (awaits r.log.job v) refl

      load_first : (t : Bool) → load_awaits r.load.phase v ≡ t →
          RuleGoes generation range w i m l d
          (if t then load_reply d r body else if awaits r.metadata.job v then metadata_reply d r body else if awaits r.log.job v then log_reply d r body else rows_or_later v body)
      load_first true e = load_reply_both v e body number one two told
      load_first false e = metadata_second (awaits r.metadata.job v) refl
