use Rattle.std.proofs.Common.{◌≡◌, ◌-◌}
use Rattle.blocks.specs.Format.{many_at}
use Rattle.blocks.proofs.Loop.{with_front}
use Rattle.checkpoint_format.specs.Index.{one_page_at}
use Rattle.checkpoint_format.proofs.index.all_pages_of.Given as goal

abbrev pub invariant-loop : goal.invariant-loop
invariant-loop l = with_front l.read.items (many_at one_page_at (l.count - l.counter) l.rest) ≡ many_at one_page_at l.count l.bytes
