use Rattle.std.proofs.Common.{arith}
use Rattle.checkpoint_format.proofs.Indexes.{is_found, is_only}
use Rattle.checkpoint_format.proofs.index.decode.Goals as goal

pub returns-clause-found : goal.returns-clause-found
returns-clause-found c = is_found c.args.bytes.now c.index_of.result (λ i. omega (arith, c.type_inv.bytes i)) c.index_of.ensures

pub returns-clause-only : goal.returns-clause-only
returns-clause-only c = λ i is places same. is_only c.args.bytes.now c.index_of.result c.index_of.ensures i is places same
