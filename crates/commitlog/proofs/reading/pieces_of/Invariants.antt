use Rattle.std.proofs.Common.{◌≡◌, ◌-◌}
use Rattle.commitlog.specs.Record.{piece_count}
use Rattle.commitlog.specs.Reading.{joined}
use Rattle.commitlog.proofs.Loop.{with_done}
use Rattle.commitlog.proofs.reading.pieces_of.Given as goal

abbrev pub invariant-loop : goal.invariant-loop
invariant-loop l = with_done l.text.items (joined 65536 (l.count - l.counter) l.left l.rest) ≡ joined 65536 (piece_count l.size) l.size l.blocks
