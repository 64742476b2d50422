use Rattle.std.proofs.Common.{arith}
use Rattle.blocks.proofs.Laws.{is_found, is_only}
use Rattle.blocks.proofs.reading.decode_end.Goals as goal

pub returns-clause-found : goal.returns-clause-found
returns-clause-found c = is_found c.args.version c.args.bytes.now c.shared_record_of.result (λ i. omega (arith, c.type_inv.bytes i)) c.shared_record_of.ensures

pub returns-clause-only : goal.returns-clause-only
returns-clause-only c = λ r n begins. is_only c.args.version c.args.bytes.now c.shared_record_of.result c.shared_record_of.ensures r n begins
