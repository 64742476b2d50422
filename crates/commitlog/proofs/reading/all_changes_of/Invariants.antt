use Rattle.std.proofs.Common.{◌≡◌, ◌-◌}
use Rattle.blocks.specs.Format.{many_at}
use Rattle.blocks.proofs.Loop.{with_front}
use Rattle.commitlog.specs.Reading.{change_at}
use Rattle.commitlog.proofs.reading.all_changes_of.Given as goal

abbrev pub invariant-loop : goal.invariant-loop
invariant-loop l = with_front l.read.items (many_at change_at (l.count - l.counter) l.rest) ≡ many_at change_at l.count l.bytes
