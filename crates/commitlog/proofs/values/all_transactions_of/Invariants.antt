use Rattle.std.proofs.Common.{◌≡◌, drop, length}
use Rattle.commitlog.specs.Reading.{each_of, changes_of}
use Rattle.commitlog.proofs.Loop.{with_done}
use Rattle.commitlog.proofs.values.all_transactions_of.Given as goal

abbrev pub invariant-loop-item : goal.invariant-loop-item
invariant-loop-item l = with_done l.made.items (each_of (changes_of (length l.blocks)) l.rest (drop l.item-index l.items)) ≡ each_of (changes_of (length l.blocks)) l.blocks l.items
