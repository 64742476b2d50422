use Rattle.std.proofs.Common.{ℕ, List, Option, ap, sym, ◌∙◌}
use Rattle.memtable.specs.declared.cell.Cell.{Cell}
use Rattle.memtable.specs.Entries.{all_taken_back}
use Rattle.memtable.proofs.Undo.{all_taken_back_push}
use Rattle.memtable.proofs.layer.take_all_back.Goals as goal

pub loop-key-preserved : goal.loop-key-preserved
loop-key-preserved c =
    ap (all_taken_back c.pop.new.self.items) c.take_back.ensures ∙ sym (all_taken_back_push c.pop.new.self.items (c.in-Some.key, c.in-Some.old) c.loop-key.layer.entries)
    ∙ sym (ap (λ (us : List (List ℕ × Option Cell)). all_taken_back us c.loop-key.layer.entries) c.in-Some.ensures.items) ∙ c.loop-key.invariant
