use Rattle.std.proofs.Common.{arith}
use Rattle.checkpoint_format.proofs.Starts.{entry_part}
use Rattle.checkpoint_format.proofs.entry.entry_from.Goals as goal

pub returns-clause-part : goal.returns-clause-part
returns-clause-part c = entry_part c.args.page.now c.args.start c.part_from.result.now c.entry_of.result (λ i. omega (arith, c.type_inv.page i)) c.part_from.ensures c.entry_of.ensures.read c.entry_of.ensures.bytes
