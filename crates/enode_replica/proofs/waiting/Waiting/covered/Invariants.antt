use Rattle.std.proofs.Common.{◌≡◌, ◌+◌, drop}
use Rattle.model_streams.specs.Node.{covered as covers}
use Rattle.enode_replica.proofs.waiting.Waiting.covered.Given as goal

abbrev pub invariant-loop-i : goal.invariant-loop-i
invariant-loop-i l = record {
  value : covers l.upto l.self ≡ l.i + covers l.upto (drop l.i l.self);
  looked : l.looks ≡ l.fn.looks + l.i;
}
