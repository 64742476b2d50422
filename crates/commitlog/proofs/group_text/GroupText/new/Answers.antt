use Rattle.std.proofs.Common.{[]}
use Rattle.commitlog.proofs.Growth.{none_held, held_is, is_held}
use Rattle.commitlog.proofs.group_text.GroupText.new.Goals as goal

pub invariant_of-result : goal.invariant_of-result
invariant_of-result c = is_held [] c.new.result.items c.new-2.result.items 0 (none_held c.new.result.items c.new-2.result.items c.new.ensures.items c.new-2.ensures.items)

pub returns : goal.returns
returns c = held_is [] c.new.result.items c.new-2.result.items 0 (none_held c.new.result.items c.new-2.result.items c.new.ensures.items c.new-2.ensures.items)
