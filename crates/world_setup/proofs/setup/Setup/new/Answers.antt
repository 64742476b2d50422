use Rattle.std.proofs.Common.{rules, arith}
use Rattle.std.proofs.lemmas.Grind.{common_steps}
use Rattle.world_setup.proofs.setup.Setup.new.Goals as goal

pub invariant_of-result : goal.invariant_of-result
invariant_of-result c = search rules

pub returns-else-contains-clause-valid : goal.returns-else-contains-clause-valid
returns-else-contains-clause-valid c = grind (arith, common_steps)
