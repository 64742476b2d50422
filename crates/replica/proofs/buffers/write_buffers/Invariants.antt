use Rattle.std.proofs.Common.{◌≡◌, ◌≤◌, ◌-◌, ◌++◌, length, take, drop}
use Rattle.replica.specs.Groups.{joined}
use Rattle.replica.proofs.buffers.write_buffers.Given as goal

abbrev pub invariant-loop-buffer : goal.invariant-loop-buffer
invariant-loop-buffer l = record {
  within : l.at ≤ length l.out;
  len : length l.out ≡ length l.fn.out;
  written : take l.at l.out ++ take (length l.out - l.at) (drop l.from (joined (drop l.buffer-index l.buffers) ++ (l.first ++ l.second))) ≡ take (length l.fn.out) (drop l.from-2 (joined l.buffers ++ (l.first ++ l.second)));
}
