use Rattle.std.proofs.Common.{◌≡◌, ◌++◌}
use Rattle.std.specs.VecDeque.{deque_len}
use Rattle.world_servers.specs.Runs.{entries_above, entries_below}
use Rattle.world_servers.proofs.ascending_run.move_below.Given as goal

abbrev pub invariant-loop-entry : goal.invariant-loop-entry
invariant-loop-entry l = record {
  moved : l.to.items ++ entries_below l.key l.entries.items ≡ l.fn.to.items ++ entries_below l.key l.fn.entries.items;
  left : entries_above l.key l.entries.items ≡ entries_above l.key l.fn.entries.items;
}

abbrev pub decreases-loop-entry : goal.decreases-loop-entry
decreases-loop-entry l = deque_len l.entries
