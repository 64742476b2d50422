use Rattle.std.proofs.Common.{◌∙◌, Some, sym, ap}
use Rattle.model_partition.specs.CheckpointStates.{CheckpointState}
use Rattle.range_checkpoint.proofs.Combined.{taken}
use Rattle.range_checkpoint.proofs.merging.take.Goals as goal

pub returns-in_ok-take-in-Some-clause-ok : goal.returns-in_ok-take-in-Some-clause-ok
returns-in_ok-take-in-Some-clause-ok c = λ job m other leads.
    let own : CheckpointState =
    record { position = c.job.inside.position; next = c.job.inside.next; combine = c.job.inside.combine; merge = c.job.inside.merge; pages = c.job.inside.pages; phase = c.job.inside.phase } in
    taken c.args.control.now own job m c.take.new.self c.args.changes (c.in-Some.is ∙ ap (λ (j : CheckpointState). Some j) (sym c.job.view_is)) other leads c.in_ok-take-in-Some.ensures.ok
