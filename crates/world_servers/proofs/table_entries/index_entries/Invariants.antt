use Rattle.std.proofs.Common.{◌≡◌, drop}
use Rattle.std.specs.Prelude.{map}
use Rattle.checkpoint.specs.Pages.{merged}
use Rattle.model_partition.specs.Servers.{index_shown}
use Rattle.world_servers.proofs.table_entries.index_entries.Given as goal

abbrev pub invariant-loop-at : goal.invariant-loop-at
invariant-loop-at l = l.entries ≡ merged l.fn.keys (map (index_shown l.fn.notes) (drop l.at l.fn.indexes))
