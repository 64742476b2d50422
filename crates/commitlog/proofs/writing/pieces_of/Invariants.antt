use Rattle.std.proofs.Common.{◌≡◌, ◌<◌, ◌+◌, ◌*◌, ◌-◌, ◌++◌, length}
use Rattle.commitlog.specs.Record.{cut, pieces}
use Rattle.commitlog.proofs.writing.pieces_of.Given as goal

abbrev pub invariant-loop : goal.invariant-loop
invariant-loop l = record {
  pieces : l.made.items ++ cut 65536 (l.count - l.counter) l.rest ≡ pieces l.fn.text.items;
  enough : 65536 * (l.count - l.counter) < length l.rest + 65536;
}
