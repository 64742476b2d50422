use Rattle.std.proofs.Common.{arith}
use Rattle.std.proofs.lemmas.Grind.{common_steps}
use Rattle.manager_state.proofs.record_bytes.kind_at.Goals as goal

pub returns-in-0 : goal.returns-in-0
returns-in-0 c = grind (arith, common_steps)

pub returns-in-1 : goal.returns-in-1
returns-in-1 c = grind (arith, common_steps)

pub returns-in-2 : goal.returns-in-2
returns-in-2 c = grind (arith, common_steps)

pub returns-in-3 : goal.returns-in-3
returns-in-3 c = grind (arith, common_steps)
