use Rattle.std.proofs.Common.{[]}
use Rattle.replica.proofs.Spelling.{no_groups, settled, spelled_groups}
use Rattle.replica.proofs.placed.PlacedGroups.new.Goals as goal

pub invariant_of-result : goal.invariant_of-result
invariant_of-result c = settled [] _ _ _ _ 0 (no_groups c.new-2.result.ends c.new-3.result.items c.new-4.result.items c.new.result.bytes c.new-2.ensures c.new-3.ensures.items c.new-4.ensures.items c.new.ensures)

pub returns : goal.returns
returns c = spelled_groups [] _ _ _ _ 0 (no_groups c.new-2.result.ends c.new-3.result.items c.new-4.result.items c.new.result.bytes c.new-2.ensures c.new-3.ensures.items c.new-4.ensures.items c.new.ensures)
