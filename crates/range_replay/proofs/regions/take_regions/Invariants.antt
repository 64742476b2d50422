use Rattle.std.proofs.Common.{◌≡◌}
use Rattle.std.specs.List.{AllByRecursion}
use Rattle.std.specs.Vec.Iter.{into_iter_items}
use Rattle.memtable.specs.Cell.{IsEntry}
use Rattle.commitlog.specs.Reading.{each_of}
use Rattle.commitlog.proofs.Loop.{with_done}
use Rattle.memtable.specs.Entries.{Entries, put_all}
use Rattle.model_partition.specs.Loading.{region_takes}
use Rattle.range_replay.proofs.regions.take_regions.Given as goal

abbrev pub invariant-loop-region : goal.invariant-loop-region
invariant-loop-region l = record {
  taken : (layer : Entries) → with_done l.all.items (each_of (region_takes l.keys l.at l.extent l.written) (put_all layer l.changes.items) (into_iter_items l.region-iterator))
      ≡ each_of (region_takes l.keys l.at l.extent l.written) (put_all layer l.fn.changes.items) l.fn.regions.items;
  entries : AllByRecursion (λ e. IsEntry e.0 e.1) l.changes.items;
}
