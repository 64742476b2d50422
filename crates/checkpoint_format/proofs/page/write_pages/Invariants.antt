use Rattle.checkpoint_format.specs.Writing.{HasWritten}
use Rattle.checkpoint_format.proofs.page.write_pages.Given as goal

abbrev pub invariant-loop-key : goal.invariant-loop-key
invariant-loop-key l =
    (goal.iterator-loop-key).can_next l.key-iterator ×
    (goal.iterator-loop-key).is_finite l.key-iterator ×
    HasWritten l.entries.entries l.pages.items l.text l.key-iterator
