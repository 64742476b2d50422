use Rattle.std.proofs.Common.{ℕ, List, subst}
use Rattle.std.proofs.lemmas.Result.{IfErr-weaker, on_ok_weaker}
use Rattle.std.specs.Str.Lines.{lines}
use Rattle.script_run.specs.Failures.{IsRunFailure}
use Rattle.script_run.specs.Script.{IsFirstBad, IsScript, size_of}
use Rattle.script_run.proofs.Drafts.{no_script}
use Rattle.script_run.proofs.Refusing.{not_for_text, told_on}
use Rattle.script_run.proofs.Writing.{writes}
use Rattle.script_run.proofs.running.run_text.Goals as goal

pub returns-clause-written : goal.returns-clause-written
returns-clause-written g c =
    let size = size_of c.in_ok-plan.plan.setup in
    let plan = c.in_ok-plan.plan.lines.items in
    on_ok_weaker c.play_all.result
    (writes c.args.text.now.items _ _ size plan c.in_ok-session.session _
    (subst (λ (t : List ℕ). IsScript t size plan) c.as_slice.ensures.value c.in_ok-plan.ensures.found) c.in_ok-session.ensures.fresh c.in_ok-session.ensures.mirrors)
    c.play_all.ensures.played

pub returns-clause-checked_first : goal.returns-clause-checked_first
returns-clause-checked_first g c = IfErr-weaker c.play_all.result IsRunFailure _ (λ e failed not. absurd (not failed)) c.play_all.ensures.failed

pub returns-clause-refused : goal.returns-clause-refused
returns-clause-refused g c = not_for_text c.play_all.result _ c.play_all.ensures.failed

pub returns-clause-first : goal.returns-clause-first
returns-clause-first g c = not_for_text c.play_all.result _ c.play_all.ensures.failed

pub returns-clause-kept : goal.returns-clause-kept
returns-clause-kept g c = not_for_text c.play_all.result _ c.play_all.ensures.failed

pub returns-in_err-plan-clause-refused : goal.returns-in_err-plan-clause-refused
returns-in_err-plan-clause-refused g c =
    told_on c.from_residual.result c.in_err-plan.field-0.0 _ c.from_residual.ensures.1
    (λ n is. no_script c.args.text.now.items n
    (subst (λ (t : List ℕ). IsFirstBad (lines t) n) c.as_slice.ensures.value (c.in_err-plan.ensures.told n is)))

pub returns-in_err-plan-clause-first : goal.returns-in_err-plan-clause-first
returns-in_err-plan-clause-first g c =
    told_on c.from_residual.result c.in_err-plan.field-0.0 _ c.from_residual.ensures.1
    (λ n is. subst (λ (t : List ℕ). IsFirstBad (lines t) n) c.as_slice.ensures.value (c.in_err-plan.ensures.told n is))
