use Rattle.std.proofs.Common.{arith}
use Rattle.checkpoint_format.proofs.Texts.{number_end}
use Rattle.checkpoint_format.proofs.entry.count_of.Goals as goal

pub returns-clause-end : goal.returns-clause-end
returns-clause-end c = number_end c.args.bytes.now c.in-Ok.count c.in-Ok.rest.now (λ i. omega (arith, c.type_inv.bytes i)) c.in-Ok.ensures.read
