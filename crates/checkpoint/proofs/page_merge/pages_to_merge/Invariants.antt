use Rattle.std.proofs.Common.{◌≡◌, ◌≤◌, length, drop}
use Rattle.checkpoint.specs.Merges.{pages_to_merge}
use Rattle.checkpoint.proofs.page_merge.pages_to_merge.Given as goal

abbrev pub invariant-loop-newer : goal.invariant-loop-newer
invariant-loop-newer l = record {
  merged : l.left.items ≡ pages_to_merge (drop l.newer l.indexes);
  within : l.newer ≤ length l.indexes;
}

abbrev pub decreases-loop-newer : goal.decreases-loop-newer
decreases-loop-newer l = l.newer
