-- The checkpoint of the left range ends, and that of the right one begins.
use Rattle.std.proofs.Common.{◌≡◌, true, false, [], sym, ap, ◌∙◌}
use Rattle.std.specs.Prelude.{not, is_some, if◌then◌else◌}
use Rattle.std.proofs.lemmas.Bool.{and_parts}
use Rattle.model_partition.specs.declared.server_context.ServerContext.{ServerContext}
use Rattle.model_partition.specs.Checkpoints.{begins, checkpoint_fault, checkpoint_rule, have_bytes, number_to_apply}
use Rattle.model_partition.specs.Range.{RangeOutcome, RangeState, goes}
use Rattle.model_partition.specs.Splits.{may_checkpoint}
use Rattle.model_partition.specs.declared.merge_job.MergeJob.{MergeJob}
use Rattle.model_partition.specs.declared.merge_job.MergePhase.TheVariants as phases
use Rattle.model_partition.specs.declared.merge_job.MergeSide.TheVariants as sides
use Rattle.model_partition.specs.Merges.{begins_right, parts, right_checkpointed, with_phase}

pub right_begins : (d : ServerContext) (l r : RangeState) (job : MergeJob) → may_checkpoint r ≡ true
    → begins_right d l r job ≡ right_checkpointed (checkpoint_rule d r false) l (with_phase job (phases.Checkpoint sides.Right))
right_begins d l r job may =
    let bytes = (and_parts (not (is_some (checkpoint_fault r))) (have_bytes r.live r.position (number_to_apply r.out r.next)) may).1 in
    let begun : begins d r false ≡ checkpoint_rule d r false = λ i. if sym bytes i then begins d r false else goes d r [] [] in
    (λ i. if may i then right_checkpointed (begins d r false) l (with_phase job (phases.Checkpoint sides.Right)) else parts d l r)
    ∙ ap (λ (o : RangeOutcome). right_checkpointed o l (with_phase job (phases.Checkpoint sides.Right))) begun

pub right_rests : (d : ServerContext) (l r : RangeState) (job : MergeJob) → may_checkpoint r ≡ false → begins_right d l r job ≡ parts d l r
right_rests d l r job may = λ i. if may i then right_checkpointed (begins d r false) l (with_phase job (phases.Checkpoint sides.Right)) else parts d l r
