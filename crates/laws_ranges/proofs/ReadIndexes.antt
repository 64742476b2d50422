-- The indexes of a range are read one by one, and then its generation is to be confirmed, as both streams see it.
use Rattle.std.proofs.Common.{◌≡◌, refl, ap, ℕ, suc, List, [], ◌∷◌, false, Option, Some, None, sym, subst, inl, arith}
use Rattle.block_types.specs.declared.record.Nodes.{Nodes}
use Rattle.wire.specs.declared.body.Body.{Body}
use Rattle.client.specs.declared.job.Place.TheVariants.{First}
use Rattle.client.specs.declared.load.LoadPhase.TheVariants as phases
use Rattle.metadata.specs.declared.record.IndexRange.{IndexRange}
use Rattle.checkpoint_format.specs.declared.index.Index.{Index}
use Rattle.checkpoint_format.specs.Index.{index_at}
use Rattle.model_streams.specs.StreamSystem.{StreamSystem}
use Rattle.model_partition.specs.declared.server_context.ServerContext.{ServerContext}
use Rattle.model_partition.specs.declared.stage.Stage.{Stage}
use Rattle.model_partition.specs.declared.stage.Stage.TheVariants as stages
use Rattle.model_partition.specs.declared.waiting.PlaceRead.{PlaceRead}
use Rattle.model_partition.specs.Range.{RangeState, request, answers, is_serving}
use Rattle.model_partition.specs.PlaceReads.{places_of, reads_place}
use Rattle.model_partition.specs.Loading.{asks_index, index_named, reads_named, reads_index, installs, index_read}
use Rattle.model_partition.specs.Answering.{index_reply}
use Rattle.laws_loads.proofs.IndexAnswers.{index_reply_elim}
use Rattle.laws_ranges.specs.Serves.{Side, StageIs, Follows, BothListed, IsSentBy, RuleGoes}
use Rattle.laws_ranges.specs.Quiet.{GoesQuietly}
use Rattle.laws_ranges.proofs.RowData.{rows_idle}
use Rattle.laws_ranges.proofs.BothStreamsAtOnce.{AllRead, confirms_both}
use Rattle.laws_ranges.proofs.BothStreams.{still_both, still_quietly}
use Rattle.laws_ranges.proofs.Confirmed.{dropped_both, dropped_quietly}

module _ (generation : ℕ → ℕ) (range : ℕ) (w : StreamSystem) (i : ℕ) (both : BothListed w range) (m l : Side) (d : ServerContext) (by : IsSentBy d d.count m.sent l.sent) where
  -- an index is asked for, which says nothing of any extent of a stream
  asks_index_both : (r : RangeState) → AllRead generation range w i m l d by r → r.load.phase ≡ phases.Opened → (position : ℕ) (index : IndexRange) (o : Option Nodes) →
      RuleGoes generation range w i m l d (asks_index d r position index o)
  asks_index_both r b opened position index None = dropped_both generation range w i both m l d by r
  asks_index_both r b opened position index (Some places) =
      let read : PlaceRead = record { request = request d; place = index.place; page = false; replica = First } in
      still_both generation range w i both m l d by (record r { stage = stages.Indexing position; reading = Some read }) (suc d.count) (reads_place d places read ∷ [])
      (record {
        range_is = b.range_is;
        under = b.under;
        calm = λ u. b.calm;
        rows = rows_idle range w m.sent l.sent _ _ r.rows b.calm.0 b.rows;
        stage = record { phase = opened; metadata = b.metadata; metadata_idle = b.metadata_idle; log = b.log; log_idle = b.log_idle };
      })
      (omega arith) (inl (λ u n s z. tt), tt)

  reads_named_both : (r : RangeState) → AllRead generation range w i m l d by r → r.load.phase ≡ phases.Opened → (position : ℕ) (named : Option IndexRange) →
      RuleGoes generation range w i m l d (reads_named d r position named)
  reads_named_both r b opened position None =
      confirms_both generation range w i m l d by (record r { reading = None })
      (record { range_is = b.range_is; under = b.under; calm = b.calm; rows = b.rows; metadata = b.metadata; metadata_idle = b.metadata_idle; log = b.log; log_idle = b.log_idle })
  reads_named_both r b opened position (Some index) = asks_index_both r b opened position index (places_of r index.place.extent)

  -- the next index is read, or all is read
  pub reads_index_both : (r : RangeState) → AllRead generation range w i m l d by r → r.load.phase ≡ phases.Opened → (position : ℕ) → RuleGoes generation range w i m l d (reads_index d r position)
  reads_index_both r b opened position = reads_named_both r b opened position (index_named r.said.indexes position)

  installs_both : (r : RangeState) → AllRead generation range w i m l d by r → r.load.phase ≡ phases.Opened → (position : ℕ) (named : Option IndexRange) (index : Option Index) →
      RuleGoes generation range w i m l d (installs d r position named index)
  installs_both r b opened position (Some named) (Some index) =
      reads_index_both (record r { indexes = record { place = named.place; keys = named.keys; index = index } ∷ r.indexes })
      (record { range_is = b.range_is; under = b.under; calm = b.calm; rows = b.rows; metadata = b.metadata; metadata_idle = b.metadata_idle; log = b.log; log_idle = b.log_idle }) opened (suc position)
  installs_both r b opened position named index = dropped_both generation range w i both m l d by r

  -- ---- an answer to the read of an index

  module _ (r : RangeState) (f : Follows generation range w i m l r) where
    index_read_both : (stage : Stage) → r.stage ≡ stage → StageIs generation range w i m l r stage → (bytes : List ℕ) → RuleGoes generation range w i m l d (index_read d r stage bytes)
    index_read_both (stages.Indexing position) e b bytes =
        installs_both r (record { range_is = f.range_is; under = f.under; calm = f.calm (ap is_serving e); rows = f.rows; metadata = b.metadata; metadata_idle = b.metadata_idle; log = b.log; log_idle = b.log_idle }) b.phase position
        (index_named r.said.indexes position) (index_at bytes)
    index_read_both stage e b bytes = still_both generation range w i both m l d by r d.count [] f (omega arith) tt

    -- whatever it is
    pub index_reply_both : (body : Body) → RuleGoes generation range w i m l d (index_reply d r body)
    index_reply_both body =
        index_reply_elim (λ o. RuleGoes generation range w i m l d o) d r (still_both generation range w i both m l d by r d.count [] f (omega arith) tt)
        (dropped_both generation range w i both m l d by r) (index_read_both r.stage refl f.stage) body

    -- where the range is served it turns nothing
    pub index_reply_quietly : r.stage ≡ stages.Serving → (body : Body) → GoesQuietly generation range w i m l d (index_reply d r body)
    index_reply_quietly stage body =
        index_reply_elim (λ o. GoesQuietly generation range w i m l d o) d r rested (dropped_quietly generation range w i both m l d by r)
        (λ bytes. subst (λ z. GoesQuietly generation range w i m l d (index_read d r z bytes)) (sym stage) rested) body
      where
        rested : GoesQuietly generation range w i m l d (answers d r [])
        rested = still_quietly generation range w i both m l d by (Some r) d.count [] f (omega arith) tt
