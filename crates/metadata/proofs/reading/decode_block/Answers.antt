use Rattle.std.proofs.Common.{arith}
use Rattle.metadata.proofs.Laws.{is_found, is_only}
use Rattle.metadata.proofs.reading.decode_block.Goals as goal

pub returns-clause-found : goal.returns-clause-found
returns-clause-found c = is_found c.args.bytes.now c.record_of.result (λ i. omega (arith, c.type_inv.bytes i)) c.requires c.record_of.ensures

pub returns-clause-only : goal.returns-clause-only
returns-clause-only c = λ r fits same. is_only c.args.bytes.now c.record_of.result c.record_of.ensures r fits same
