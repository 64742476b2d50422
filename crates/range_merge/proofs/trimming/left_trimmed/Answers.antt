use Rattle.std.proofs.Common.{◌≡◌, ◌-◌, take, drop, sym, ap, subst, ◌∙◌}
use Rattle.model_partition.specs.Checkpoints.{trimmed, with_blob}
use Rattle.model_partition.specs.Range.{RangeOutcome, RangeState}
use Rattle.range_core.specs.Steps as steps
use Rattle.model_partition.specs.declared.merge_job.MergePhase.TheVariants as phases
use Rattle.model_partition.specs.declared.merge_job.MergeSide.TheVariants as sides
use Rattle.model_partition.specs.Merges.{right_checkpointed, with_phase}
use Rattle.range_merge.specs.Steps.{MergeTaken, outcome}
use Rattle.range_merge.proofs.RightBegins.{right_begins, right_rests}
use Rattle.range_merge.proofs.trimming.left_trimmed.Goals as goal

pub returns-then-not-may_checkpoint-clause-ok : goal.returns-then-not-may_checkpoint-clause-ok
returns-then-not-may_checkpoint-clause-ok c =
    let d = c.args.context.now in
    let l = c.args.left.now in
    let r = c.args.right.now in
    let job = c.args.job.now in
    let before = c.args.trim.0 in
    let to_blob = c.args.trim.1 in
    let below = subst (λ (x : RangeState). (take c.count_below-count.result x.log.extents ≡ take (before - x.log.base) x.log.extents) × (drop c.count_below-count.result x.log.extents ≡ drop (before - x.log.base) x.log.extents)) c.left.view_is c.count_below-count.ensures.below in
    let blob = subst (λ (x : RangeState). with_blob x.blob_data (take c.count_below-count.result x.log.extents) to_blob ≡ record x.blob_data { extents = c.in_ok-blob.blob.items }) c.left.view_is c.in_ok-blob.ensures in
    right_rests d (trimmed l before to_blob) r job (sym c.may_checkpoint.ensures.value ∙ c.if-not-may_checkpoint.true)
    ∙ c.parts.ensures.ok (trimmed l before to_blob) r job
    ∙ ap (λ (x : RangeState). outcome c.parts.result x r job) (sym (c.trims.ensures to_blob below blob))

pub returns-clause-ok : goal.returns-clause-ok
returns-clause-ok c =
    let d = c.args.context.now in
    let l = c.args.left.now in
    let r = c.args.right.now in
    let job = c.args.job.now in
    let before = c.args.trim.0 in
    let to_blob = c.args.trim.1 in
    let next = with_phase job (phases.Checkpoint sides.Right) in
    let below = subst (λ (x : RangeState). (take c.count_below-count.result x.log.extents ≡ take (before - x.log.base) x.log.extents) × (drop c.count_below-count.result x.log.extents ≡ drop (before - x.log.base) x.log.extents)) c.left.view_is c.count_below-count.ensures.below in
    let blob = subst (λ (x : RangeState). with_blob x.blob_data (take c.count_below-count.result x.log.extents) to_blob ≡ record x.blob_data { extents = c.in_ok-blob.blob.items }) c.left.view_is c.in_ok-blob.ensures in
    right_begins d (trimmed l before to_blob) r job (sym c.may_checkpoint.ensures.value ∙ c.if-not-may_checkpoint.false)
    ∙ ap (λ (o : RangeOutcome). right_checkpointed o (trimmed l before to_blob) next) c.in_ok-taken.ensures.ok
    ∙ ap (λ (x : RangeState). right_checkpointed (steps.outcome c.in_ok-taken.taken c.freeze.new.self) x next) (sym (c.trims-2.ensures to_blob below blob))
    ∙ ap (λ (t : MergeTaken). outcome t c.trims-2.new.state c.freeze.new.self next) (sym c.right_taken.ensures)
