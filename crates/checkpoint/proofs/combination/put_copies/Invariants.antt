use Rattle.std.proofs.Common.{◌≡◌}
use Rattle.memtable.specs.Entries.{put_all}
use Rattle.checkpoint.proofs.combination.put_copies.Given as goal

abbrev pub invariant-loop-key : goal.invariant-loop-key
invariant-loop-key l = put_all l.all.entries l.key-iterator ≡ put_all l.fn.all.entries l.newer.entries
