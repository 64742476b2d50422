-- A page is read for a checkpoint that combines: a range that is served goes on with the merge, and turns neither of its streams.
use Rattle.std.proofs.Common.{◌≡◌, ℕ, [], Some, None, refl, sym, ap, ◌∙◌, subst, arith}
use Rattle.wire.specs.declared.body.Body.{Body}
use Rattle.memtable.specs.declared.cell.Place.{Place}
use Rattle.memtable.specs.Entries.{Entries}
use Rattle.checkpoint.specs.Merges.{next_place, with_page}
use Rattle.model_streams.specs.StreamSystem.{StreamSystem}
use Rattle.model_partition.specs.CheckpointStates.{CheckpointState, is_recording}
use Rattle.model_partition.specs.declared.checkpoint_job.CheckpointPhase.{CheckpointPhase}
use Rattle.model_partition.specs.declared.checkpoint_job.CheckpointPhase.TheVariants as checkpoints
use Rattle.model_partition.specs.declared.server_context.ServerContext.{ServerContext}
use Rattle.model_partition.specs.declared.stage.Stage.TheVariants as stages
use Rattle.model_partition.specs.Range.{RangeState, answers}
use Rattle.model_partition.specs.Checkpoints.{merges}
use Rattle.model_partition.specs.Answering.{page_reply}
use Rattle.laws_loads.proofs.PageAnswers.{merged, page_reply_elim}
use Rattle.laws_ranges.specs.Serves.{Side, is_recording_in, MergesPhase, TrimsJob, Follows, HasNoCheckpoint, BothListed, IsSentBy, RuleGoes}
use Rattle.laws_ranges.specs.Quiet.{GoesQuietly}
use Rattle.laws_ranges.specs.Records.{ServesBoth}
use Rattle.laws_ranges.proofs.BothStreams.{still_both}
use Rattle.laws_ranges.proofs.Confirmed.{dropped_both, dropped_quietly}
use Rattle.laws_ranges.proofs.CheckpointRules.{merges_quietly}
use Rattle.laws_ranges.proofs.WholeRanges.{RestStands, still_whole, served_both, served_rest}

-- where a page is left to be merged the checkpoint is in its first phase
still_combining : (phase : CheckpointPhase) (place : Place) → MergesPhase phase (Some place) → phase ≡ checkpoints.Combining
still_combining checkpoints.Combining place m = refl
still_combining checkpoints.Pages place m = absurd cc
still_combining checkpoints.Index place m = absurd cc
still_combining (checkpoints.Record index) place m = absurd cc
still_combining (checkpoints.Trim before to_blob q) place m = absurd cc

module _ (generation : ℕ → ℕ) (range : ℕ) (w : StreamSystem) (i : ℕ) (both : BothListed w range) (m l : Side) (d : ServerContext) (by : IsSentBy d d.count m.sent l.sent)
    (r : RangeState) (f : Follows generation range w i m l r) where
  -- where the range is served
  pub page_reply_quietly : r.stage ≡ stages.Serving → (body : Body) → GoesQuietly generation range w i m l d (page_reply d r body)
  page_reply_quietly stage body = page_reply_elim (λ o. GoesQuietly generation range w i m l d o) d r rested (dropped_quietly generation range w i both m l d by r) goes_on body
    where
      b : ServesBoth generation range w i m l r
      b = served_both generation range w i m l r f stage

      rest : RestStands generation range w i m.sent l.sent r
      rest = served_rest generation range w i m l r f stage

      rested : GoesQuietly generation range w i m l d (answers d r [])
      rested = still_whole generation range w i m l d both by r d.count [] b rest (omega arith) tt

      goes_on : (job : CheckpointState) (place : Place) (entries : Entries) → r.control ≡ Some job → next_place job.merge ≡ Some place →
          GoesQuietly generation range w i m l d (merges d r (merged job (with_page r.said.keys job.merge entries)))
      goes_on job place entries control next =
          merges_quietly generation range w i both m l d by r b rest (ap is_recording_in control ∙ ap is_recording phase) (merged job (with_page r.said.keys job.merge entries)) phase under_way.0
        where
          under_way : TrimsJob r.log (Some job)
          under_way = subst (λ z. TrimsJob r.log z) control rest.trims

          phase : job.phase ≡ checkpoints.Combining
          phase = still_combining job.phase place (subst (λ z. MergesPhase job.phase z) next under_way.2)

  -- where no checkpoint is under way no page is waited for
  pub page_reply_both : HasNoCheckpoint r → (body : Body) → RuleGoes generation range w i m l d (page_reply d r body)
  page_reply_both calm body =
      page_reply_elim (λ o. RuleGoes generation range w i m l d o) d r (still_both generation range w i both m l d by r d.count [] f (omega arith) tt) (dropped_both generation range w i both m l d by r)
      (λ job place entries control next. absurd (let z : None ≡ Some job = sym calm.1 ∙ control in cc)) body
