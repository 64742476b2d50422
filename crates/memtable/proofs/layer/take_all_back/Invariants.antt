use Rattle.std.proofs.Common.{◌≡◌, vec_len}
use Rattle.memtable.specs.Entries.{all_taken_back}
use Rattle.memtable.proofs.layer.take_all_back.Given as goal

abbrev pub invariant-loop-key : goal.invariant-loop-key
invariant-loop-key l = all_taken_back l.undos.items l.layer.entries ≡ all_taken_back l.fn.undos.items l.fn.layer.entries

abbrev pub decreases-loop-key : goal.decreases-loop-key
decreases-loop-key l = vec_len l.undos
