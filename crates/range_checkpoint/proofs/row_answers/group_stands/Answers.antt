use Rattle.std.proofs.Common.{◌≡◌, subst}
use Rattle.checkpoint.specs.PageGroups.{next_group, with_next_placed}
use Rattle.model_partition.specs.CheckpointStates.{CheckpointState}
use Rattle.model_partition.specs.Checkpoints.{next_append, pages_stand}
use Rattle.range_checkpoint.specs.declared.row_answers.NextStep.TheVariants.{Rows}
use Rattle.range_checkpoint.specs.Steps.{with_rows}
use Rattle.range_checkpoint.proofs.Noted.{group_goes}
use Rattle.range_checkpoint.proofs.row_answers.group_stands.Goals as goal

pub returns-clause-ok : goal.returns-clause-ok
returns-clause-ok c = λ d r.
    subst (λ (j : CheckpointState). with_rows (next_append (pages_stand j c.args.extent c.args.offset) (next_group (with_next_placed j.pages c.args.extent c.args.offset)))
    ≡ (record { position = c.job.inside.position; next = c.job.inside.next; combine = c.job.inside.combine; merge = c.job.inside.merge; pages = c.pages_stand.new.pages; phase = c.in_ok-next.next.phase }, Rows c.in_ok-next.next.blocks))
    c.job.view_is
    (group_goes (record { position = c.job.inside.position; next = c.job.inside.next; combine = c.job.inside.combine; merge = c.job.inside.merge; pages = c.job.inside.pages; phase = c.job.inside.phase }) c.args.extent c.args.offset c.pages_stand.new.pages c.in_ok-next.next.phase c.in_ok-next.next.blocks
    c.in_ok-next.ensures.pages c.in_ok-next.ensures.next)
