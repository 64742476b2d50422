use Rattle.std.proofs.Common.{◌≡◌, ◌+◌, ◌++◌, length, drop}
use Rattle.std.specs.List.{AllByRecursion}
use Rattle.memtable.specs.Entries.{IsFit}
use Rattle.checkpoint.specs.Merges.{at_hand, all_of}
use Rattle.checkpoint.proofs.page_merge.more_at_hand.Given as goal

abbrev pub invariant-loop-at : goal.invariant-loop-at
invariant-loop-at g l = record {
  changes : l.changes.items ++ all_of (at_hand (g.P.Pages.source l.pages) l.keys (drop l.at l.left.items)) ≡ l.fn.found.changes ++ all_of (at_hand (g.P.Pages.source l.pages) l.keys (drop l.fn.found.count l.left.items));
  count : l.at + length (at_hand (g.P.Pages.source l.pages) l.keys (drop l.at l.left.items)) ≡ l.fn.found.count + length (at_hand (g.P.Pages.source l.pages) l.keys (drop l.fn.found.count l.left.items));
  fit : AllByRecursion IsFit l.changes.items;
}
