use Rattle.std.proofs.Common.{◌≤◌}
use Rattle.script_run.specs.Output.{Prints}
use Rattle.script_run.specs.Playing.{DeliversSome, most_deliveries}
use Rattle.script_run.proofs.session.Session.settle.Given as goal

abbrev pub invariant-loop-turn : goal.invariant-loop-turn
invariant-loop-turn g l = record {
  few : l._turn ≤ most_deliveries;
  delivers : Prints (g.W.Write.contents l.fn.writer) (g.W.Write.contents l.writer) (λ text. DeliversSome l._turn l.fn.self text l.self);
}
