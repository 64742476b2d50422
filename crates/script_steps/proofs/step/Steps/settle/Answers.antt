use Rattle.std.proofs.Common.{arith, subst}
use Rattle.script_steps.specs.Steps.{AddsOne, StepDeliversLowest, StepsKept}
use Rattle.script_steps.proofs.Adding.{lowest_added, some_next}
use Rattle.script_steps.proofs.step.Steps.settle.Goals as goal

pub loop-turn-preserved : goal.loop-turn-preserved
loop-turn-preserved c =
    let before = c.loop-turn.invariant in
    let was : StepsKept = record { session = c.self.inside.session; steps = c.self.inside.steps.items } in
    record {
      few = omega arith;
      added = some_next _ _ _ c.args.place c.loop-turn._turn _ before.added
          (subst (λ (x : StepsKept). AddsOne x c.deliver.new.self (λ step. StepDeliversLowest c.args.place x.session step c.deliver.new.self.session)) c.self.view_is
          (lowest_added was c.deliver.new.self c.lowest.new.self c.args.place c.in-Some.number (rw c.in-Some.is at c.in_ok-number.ensures.found) c.in_ok-number.ensures.same c.in_ok-deliver.ensures.added));
    }
