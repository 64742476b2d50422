use Rattle.std.proofs.Common.{◌∙◌, ap, Option}
use Rattle.model_partition.specs.CheckpointStates.{CheckpointState}
use Rattle.range_checkpoint.specs.Steps.{control_stands, with_job}
use Rattle.range_checkpoint.proofs.row_answers.control_stands.Goals as goal

pub returns-in_ok-next-in-Some-clause-ok : goal.returns-in_ok-next-in-Some-clause-ok
returns-in_ok-next-in-Some-clause-ok c = λ d r same.
    ap (λ (k : Option CheckpointState). control_stands d r k c.args.extent c.args.offset) c.in-Some.is
    ∙ ap with_job (c.in_ok-next-in-Some.ensures.ok d r same)
