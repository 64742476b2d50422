use Rattle.std.proofs.Common.{◌≡◌, ◌++◌}
use Rattle.world_servers.proofs.ascending_run.AscendingRun.copied.Given as goal

abbrev pub invariant-loop-key : goal.invariant-loop-key
invariant-loop-key l = l.entries.items ++ l.key-iterator ≡ l.map.entries
