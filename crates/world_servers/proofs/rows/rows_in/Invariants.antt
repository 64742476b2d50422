use Rattle.std.proofs.Common.{◌≡◌, ◌++◌, drop}
use Rattle.model_partition.specs.Servers.{rows_in}
use Rattle.world_servers.proofs.rows.rows_in.Given as goal

abbrev pub invariant-loop-entry : goal.invariant-loop-entry
invariant-loop-entry l = l.rows.items ++ rows_in l.fn.notes (drop l.entry-index l.entries) ≡ rows_in l.fn.notes l.entries
