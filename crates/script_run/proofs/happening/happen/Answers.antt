use Rattle.std.proofs.lemmas.Result.{on_ok_weaker}
use Rattle.script_run.proofs.Writing.{tells}
use Rattle.script_run.proofs.happening.happen.Goals as goal

pub returns-clause-told : goal.returns-clause-told
returns-clause-told g c =
    on_ok_weaker c.print_since.result
    (tells _ _ _ _ _ c.args.event _ _ _ c.observations-shown.ensures.notes c.observations.ensures.notes c.in_ok-refused.ensures.came c.in_ok-refused.ensures.refusal
    c.in_ok-print_some.ensures.printed)
    c.print_since.ensures.printed
