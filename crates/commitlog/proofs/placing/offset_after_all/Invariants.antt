use Rattle.std.proofs.Common.{◌≡◌, ◌+◌, drop}
use Rattle.std.specs.List.{flat_map}
use Rattle.block_types.specs.Limits.{group_size}
use Rattle.commitlog.specs.Record.{transaction_values}
use Rattle.commitlog.proofs.placing.offset_after_all.Given as goal

abbrev pub invariant-loop-changes : goal.invariant-loop-changes
invariant-loop-changes l = l.next + group_size (flat_map transaction_values (drop l.changes-index l.all)) ≡ l.offset + group_size (flat_map transaction_values l.all)
