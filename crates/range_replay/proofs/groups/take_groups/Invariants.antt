use Rattle.std.proofs.Common.{◌≡◌, drop}
use Rattle.std.specs.List.{AllByRecursion}
use Rattle.memtable.specs.Cell.{IsEntry}
use Rattle.memtable.specs.Entries.{Entries, put_all}
use Rattle.model_partition.specs.Loading.{replayed}
use Rattle.range_replay.proofs.groups.take_groups.Given as goal

abbrev pub invariant-loop-group : goal.invariant-loop-group
invariant-loop-group l = record {
  taken : (layer : Entries) → replayed l.keys l.extent l.at (l.all.items, put_all layer l.changes.items) (drop l.group-index l.groups)
      ≡ replayed l.keys l.extent l.fn.start (l.fn.regions.items, put_all layer l.fn.changes.items) l.groups;
  entries : AllByRecursion (λ e. IsEntry e.0 e.1) l.changes.items;
}
