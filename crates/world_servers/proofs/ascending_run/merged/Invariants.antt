use Rattle.std.proofs.Common.{◌≡◌, ◌++◌}
use Rattle.std.specs.Vec.Iter.{into_iter_items}
use Rattle.world_servers.specs.Runs.{merged_entries}
use Rattle.world_servers.proofs.ascending_run.merged.Given as goal

abbrev pub invariant-loop-key : goal.invariant-loop-key
invariant-loop-key l = l.all.items ++ merged_entries l.older.items (into_iter_items l.key-iterator) ≡ merged_entries l.fn.older.items l.fn.newer.items

abbrev pub invariant-loop-entry : goal.invariant-loop-entry
invariant-loop-entry l = l.all.items ++ into_iter_items l.entry-iterator ≡ merged_entries l.fn.older.items l.fn.newer.items
