use Rattle.std.proofs.Common.{◌∙◌, sym, ap}
use Rattle.model_partition.specs.declared.checkpoint_job.CheckpointPhase.{CheckpointPhase}
use Rattle.model_partition.specs.CheckpointStates.{CheckpointState}
use Rattle.range_checkpoint.specs.Steps.{stands_in}
use Rattle.range_checkpoint.proofs.row_answers.job_stands.Goals as goal

pub returns-in_ok-next-in-Pages-clause-ok : goal.returns-in_ok-next-in-Pages-clause-ok
returns-in_ok-next-in-Pages-clause-ok c = λ d r same.
    ap (λ (p : CheckpointPhase). stands_in d r c.args.job.now p c.args.extent c.args.offset) (ap (λ (j : CheckpointState). j.phase) (sym c.job.view_is) ∙ c.in-Pages.is)
    ∙ c.in_ok-next-in-Pages.ensures.ok d r

pub returns-in_ok-next-in-Index-clause-ok : goal.returns-in_ok-next-in-Index-clause-ok
returns-in_ok-next-in-Index-clause-ok c = λ d r same.
    let phase = ap (λ (j : CheckpointState). j.phase) (sym c.job.view_is) ∙ c.in-Index.is in
    ap (λ (p : CheckpointPhase). stands_in d r c.args.job.now p c.args.extent c.args.offset) phase
    ∙ c.in_ok-next-in-Index.ensures.ok d r same phase
