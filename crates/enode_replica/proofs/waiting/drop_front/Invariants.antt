use Rattle.std.proofs.Common.{◌≡◌, drop}
use Rattle.enode_replica.proofs.waiting.drop_front.Given as goal

abbrev pub invariant-loop : goal.invariant-loop
invariant-loop g l = l.queue.items ≡ drop l.counter l.fn.queue.items
