use Rattle.std.proofs.Common.{◌≡◌, ◌+◌, ◌-◌, ◌<◌, ◌≤◌}
use Rattle.std.specs.Prelude.{min}
use Rattle.range_replay.proofs.regions.take_numbers.Given as goal

abbrev pub invariant-loop-number : goal.invariant-loop-number
invariant-loop-number l = record {
  reached : l.written.first < l.number → l.written.first ≤ l.fn.replay;
  old : l.old ≡ min (l.fn.replay - l.written.first) (l.number - l.written.first);
  next : l.replay ≡ l.fn.replay + ((l.number - l.written.first) - l.old);
}
