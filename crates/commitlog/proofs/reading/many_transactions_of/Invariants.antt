use Rattle.std.proofs.Common.{◌≡◌, ◌-◌}
use Rattle.blocks.specs.Format.{many_at}
use Rattle.blocks.proofs.Loop.{with_front}
use Rattle.commitlog.specs.Reading.{transaction_at}
use Rattle.commitlog.proofs.reading.many_transactions_of.Given as goal

abbrev pub invariant-loop : goal.invariant-loop
invariant-loop l = with_front l.read.items (many_at transaction_at (l.count - l.counter) l.rest) ≡ many_at transaction_at l.count l.bytes
