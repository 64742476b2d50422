use Rattle.std.proofs.Common.{◌≡◌, drop}
use Rattle.commitlog.specs.Reading.{each_of, change_of}
use Rattle.commitlog.proofs.Loop.{with_done}
use Rattle.commitlog.proofs.values.changes_of.Given as goal

abbrev pub invariant-loop-item : goal.invariant-loop-item
invariant-loop-item l = with_done l.made.items (each_of (change_of l.total) l.rest (drop l.item-index l.items)) ≡ each_of (change_of l.total) l.blocks l.items
