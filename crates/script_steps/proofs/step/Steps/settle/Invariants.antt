use Rattle.std.proofs.Common.{◌≤◌}
use Rattle.script_run.specs.Playing.{most_deliveries}
use Rattle.script_steps.specs.Steps.{Adds, StepsDeliverSome}
use Rattle.script_steps.proofs.step.Steps.settle.Given as goal

abbrev pub invariant-loop-turn : goal.invariant-loop-turn
invariant-loop-turn l = record {
  few : l._turn ≤ most_deliveries;
  added : Adds l.fn.self l.self (λ more. StepsDeliverSome l._turn l.fn.place l.fn.self.session more l.self.session);
}
