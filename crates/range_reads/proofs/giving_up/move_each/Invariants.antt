use Rattle.std.proofs.Common.{◌≡◌, ◌≤◌, length, map, take}
use Rattle.std.specs.List.{flat_map}
use Rattle.range_reads.specs.ValueCache.{Values}
use Rattle.range_reads.specs.Lookups.{seen}
use Rattle.model_partition.specs.Getting.{gives_up_get}
use Rattle.model_partition.specs.Range.{RangeState}
use Rattle.range_reads.proofs.giving_up.move_each.Given as goal

abbrev pub invariant-loop-get : goal.invariant-loop-get
invariant-loop-get l = record {
  gets : (held : Values) (r : RangeState) → l.all.gets.items ≡ map (λ g. (gives_up_get l.asking.context.now (seen l.asking held r) g).0) (take l.get-index l.gets);
  packets : (held : Values) (r : RangeState) → l.all.packets.items ≡ flat_map (λ g. (gives_up_get l.asking.context.now (seen l.asking held r) g).1) (take l.get-index l.gets);
  count : length l.all.gets.items ≤ l.get-index;
  bound : length l.all.packets.items ≤ l.get-index;
}
