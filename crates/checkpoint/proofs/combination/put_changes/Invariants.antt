use Rattle.std.proofs.Common.{◌≡◌, drop}
use Rattle.memtable.specs.Entries.{put_all}
use Rattle.checkpoint.proofs.combination.put_changes.Given as goal

abbrev pub invariant-loop-change : goal.invariant-loop-change
invariant-loop-change l = put_all l.all.entries (drop l.change-index l.changes) ≡ put_all l.fn.all.entries l.changes
