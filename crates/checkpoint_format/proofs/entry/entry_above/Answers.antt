use Rattle.std.proofs.Common.{arith}
use Rattle.checkpoint_format.specs.Walk.{part_entry}
use Rattle.checkpoint_format.proofs.Texts.{entry_end}
use Rattle.checkpoint_format.proofs.entry.entry_above.Goals as goal

pub returns-clause-end : goal.returns-clause-end
returns-clause-end c = entry_end c.args.bytes.now (part_entry c.in-Ok.entry) c.in-Ok.entry.after.now (λ i. omega (arith, c.type_inv.bytes i)) c.in-Ok.ensures.read
