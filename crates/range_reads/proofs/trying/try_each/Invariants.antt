use Rattle.std.proofs.Common.{◌≡◌, ◌+◌, ◌≤◌, length, map, drop}
use Rattle.range_reads.specs.Looking.{view_content}
use Rattle.range_reads.specs.Lookups.{seen}
use Rattle.range_reads.proofs.Tries.{with_done}
use Rattle.model_partition.specs.Getting.{try_all, without}
use Rattle.model_partition.specs.Range.{RangeState}
use Rattle.range_reads.proofs.trying.try_each.Given as goal

abbrev pub invariant-loop-get : goal.invariant-loop-get
invariant-loop-get l = record {
  value : (r : RangeState) → with_done l.tries.waiting.items l.tries.packets.items l.tries.notes.items (try_all (record l.asking.context.now { count = l.tries.count }) (seen l.asking (view_content l.view) r) (map (without l.answered) (drop l.get-index l.gets)))
      ≡ try_all l.asking.context.now (seen l.asking (view_content l.view) r) (map (without l.answered) l.gets);
  counted : l.tries.count ≤ l.asking.context.now.count + l.get-index;
  waiting : length l.tries.waiting.items ≤ l.get-index;
  packets : length l.tries.packets.items ≤ l.get-index;
  notes : length l.tries.notes.items ≤ l.get-index;
}
