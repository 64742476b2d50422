use Rattle.script_run.proofs.Drafts.{no_script}
use Rattle.script_run.proofs.Refusing.{told_on}
use Rattle.script_run.specs.Script.{size_of}
use Rattle.script_steps.proofs.Adding.{all_within}
use Rattle.script_steps.proofs.Printing.{all_sent, all_written, shows}
use Rattle.script_steps.proofs.recording.steps_of.Goals as goal

pub returns-in_err-plan-clause-refused : goal.returns-in_err-plan-clause-refused
returns-in_err-plan-clause-refused c =
    told_on c.from_residual.result c.in_err-plan.field-0.0 _ c.from_residual.ensures.1 (λ n is. no_script c.args.text.now n (c.in_err-plan.ensures.told n is))

pub returns-clause-written : goal.returns-clause-written
returns-clause-written c =
    all_written c.args.text.now c.play_all.new.steps
    (shows c.args.text.now c.in_ok-steps.steps c.play_all.new.steps (size_of c.in_ok-plan.plan.setup) c.in_ok-plan.plan.lines.items c.in_ok-plan.ensures.found c.in_ok-steps.ensures.fresh c.in_ok-steps.ensures.mirrors c.in_ok-steps.ensures.none c.in_ok-play_all.ensures.added)

pub returns-clause-sent : goal.returns-clause-sent
returns-clause-sent c =
    all_sent c.args.text.now c.play_all.new.steps
    (shows c.args.text.now c.in_ok-steps.steps c.play_all.new.steps (size_of c.in_ok-plan.plan.setup) c.in_ok-plan.plan.lines.items c.in_ok-plan.ensures.found c.in_ok-steps.ensures.fresh c.in_ok-steps.ensures.mirrors c.in_ok-steps.ensures.none c.in_ok-play_all.ensures.added)

pub returns-clause-within : goal.returns-clause-within
returns-clause-within c = all_within c.in_ok-steps.steps c.play_all.new.steps _ c.in_ok-steps.ensures.none c.in_ok-play_all.ensures.added
