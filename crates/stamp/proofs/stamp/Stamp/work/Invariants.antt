use Rattle.std.proofs.Common.{◌≡◌}
use Rattle.stamp.specs.Turns.{WorksFor}
use Rattle.stamp.proofs.stamp.Stamp.work.Given as goal

abbrev pub invariant-loop-turn : goal.invariant-loop-turn
invariant-loop-turn g l = record {
  works : WorksFor l._turn l.lost l.initial.pass.sight l.pass.sight;
  answered : l.pass.answered ≡ l.initial.pass.answered;
}
