use Rattle.std.proofs.Common.{◌≡◌, ◌++◌}
use Rattle.model_partition.specs.Servers.{rows_in}
use Rattle.world_servers.proofs.rows.live_rows.Given as goal

abbrev pub invariant-loop-key : goal.invariant-loop-key
invariant-loop-key l = l.rows.items ++ rows_in l.fn.notes l.key-iterator ≡ rows_in l.fn.notes l.live.entries
