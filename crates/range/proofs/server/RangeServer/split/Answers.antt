use Rattle.std.proofs.Common.{◌∙◌, sym}
use Rattle.range.proofs.Checkpoints.{split_refused_so}
use Rattle.range.proofs.server.RangeServer.split.Goals as goal

pub of_beginning-requires : goal.of_beginning-requires
of_beginning-requires c =
    split_refused_so c.in-Some.state.now c.has_jobs-jobs.result c.args.key.now c.in-Some-split_fault.refusal (sym c.split_fault.ensures ∙ c.in-Some-split_fault.is)
