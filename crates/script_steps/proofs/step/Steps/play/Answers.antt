use Rattle.std.proofs.Common.{◌≡◌, ◌∷◌, ◌-◌, [], List, length, sym, subst}
use Rattle.std.proofs.lemmas.Result.{on_ok_weaker}
use Rattle.script_lines.specs.declared.line.Line.{Line}
use Rattle.script_run.specs.Playing.{SessionState}
use Rattle.script_steps.specs.Steps.{Adds, StepDelivers, StepSeen, StepsOf, StepsSettle, post_of}
use Rattle.script_steps.proofs.Adding.{begins_and}
use Rattle.script_steps.proofs.step.Steps.play.Goals as goal

pub returns-in_ok-begin-in-Settle-clause-added : goal.returns-in_ok-begin-in-Settle-clause-added
returns-in_ok-begin-in-Settle-clause-added c =
    on_ok_weaker c.settle.result
    (λ h. subst (λ (l : Line). Adds c.args.self.now c.settle.new.self (λ more. StepsOf c.args.place l c.args.self.now.session more c.settle.new.self.session)) (sym c.in-Settle.is)
    (begins_and _ _ _ c.args.place (λ s more. StepsSettle c.args.place s more c.settle.new.self.session) c.in_ok-begin-in-Settle.ensures.added h))
    c.settle.ensures.added

pub returns-in_ok-begin-in-DeliverLast-clause-added : goal.returns-in_ok-begin-in-DeliverLast-clause-added
returns-in_ok-begin-in-DeliverLast-clause-added c =
    on_ok_weaker c.deliver_last.result
    (λ h. subst (λ (l : Line). Adds c.args.self.now c.deliver_last.new.self (λ more. StepsOf c.args.place l c.args.self.now.session more c.deliver_last.new.self.session)) (sym c.in-DeliverLast.is)
    (begins_and _ _ _ c.args.place
    (λ (s : SessionState) (more : List StepSeen). (last : StepSeen) × (more ≡ last ∷ []) × StepDelivers c.args.place (length (post_of s) - 1) s last c.deliver_last.new.self.session)
    c.in_ok-begin-in-DeliverLast.ensures.added h))
    c.deliver_last.ensures.added
