use Rattle.std.proofs.Common.{arith}
use Rattle.std.proofs.lemmas.Grind.{common_steps}
use Rattle.block_types.proofs.group.Group.new.Goals as goal

pub returns-then-any_bad-clause-fault : goal.returns-then-any_bad-clause-fault
returns-then-any_bad-clause-fault c = grind (arith, common_steps)

pub returns-then-is_empty-clause-fault : goal.returns-then-is_empty-clause-fault
returns-then-is_empty-clause-fault c = grind (arith, common_steps)

pub returns-in_err-blocks_of-clause-fault : goal.returns-in_err-blocks_of-clause-fault
returns-in_err-blocks_of-clause-fault c = grind (arith, common_steps)

pub of-requires : goal.of-requires
of-requires c = grind (arith, common_steps)
