use Rattle.std.proofs.Common.{◌≡◌, ◌++◌, take, drop}
use Rattle.replica.specs.Groups.{joined}
use Rattle.replica.proofs.buffers.copy_buffers.Given as goal

abbrev pub invariant-loop-buffer : goal.invariant-loop-buffer
invariant-loop-buffer l = l.out.items ++ take l.most (drop l.from (joined (drop l.buffer-index l.buffers) ++ (l.first ++ l.second))) ≡ l.fn.out.items ++ take l.most-2 (drop l.from-2 (joined l.buffers ++ (l.first ++ l.second)))
