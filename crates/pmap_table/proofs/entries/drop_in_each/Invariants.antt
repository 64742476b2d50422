use Rattle.std.proofs.Common.{◌≡◌}
use Rattle.model_partition.specs.Map.{dropped_if}
use Rattle.pmap_table.proofs.Places.{changed_to}
use Rattle.pmap_table.proofs.entries.drop_in_each.Given as goal

abbrev pub invariant-loop-entry : goal.invariant-loop-entry
invariant-loop-entry l = l.entries ≡ changed_to (dropped_if l.range) l.entry-index l.fn.entries
