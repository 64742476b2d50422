use Rattle.std.proofs.Common.{◌++◌, ap, ◌∙◌}
use Rattle.memtable.specs.Entries.{Entries}
use Rattle.checkpoint.proofs.Orders.{copied_more}
use Rattle.checkpoint.proofs.combination.copied.Goals as goal

pub loop-key-preserved-in_ok-insert : goal.loop-key-preserved-in_ok-insert
loop-key-preserved-in_ok-insert c =
    ap (λ (l : Entries). l ++ c.next.new.self) c.in_ok-insert.ensures.entries ∙ copied_more c.loop-key.copy.entries c.loop-key.key-iterator c.next.new.self c.args.entries.now.entries c.in-Some.key.now c.in-Some.cell.now c.in_ok-clone.field-0 c.in_ok-copy.field-0
    c.loop-key.invariant c.in-Some.ensures.steps c.into_iter-key-iterator.ensures.into_iter_gives.5 c.in_ok-clone.ensures.cases c.in_ok-copy.ensures

pub loop-key-preserved : goal.loop-key-preserved
loop-key-preserved c =
    ap (λ (l : Entries). l ++ c.next.new.self) c.in_ok-insert.ensures.entries ∙ copied_more c.loop-key.copy.entries c.loop-key.key-iterator c.next.new.self c.args.entries.now.entries c.in-Some.key.now c.in-Some.cell.now c.in_ok-clone.field-0 c.in_ok-copy.field-0
    c.loop-key.invariant c.in-Some.ensures.steps c.into_iter-key-iterator.ensures.into_iter_gives.5 c.in_ok-clone.ensures.cases c.in_ok-copy.ensures
