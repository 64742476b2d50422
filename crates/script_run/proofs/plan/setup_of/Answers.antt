use Rattle.std.proofs.Common.{arith}
use Rattle.std.proofs.lemmas.Grind.{common_steps}
use Rattle.script_run.proofs.plan.setup_of.Goals as goal

pub returns-in_default-clause-none : goal.returns-in_default-clause-none
returns-in_default-clause-none c = grind (arith, common_steps)

pub returns-in_default-2-clause-none : goal.returns-in_default-2-clause-none
returns-in_default-2-clause-none c = grind (arith, common_steps)

pub returns-in_default-3-clause-none : goal.returns-in_default-3-clause-none
returns-in_default-3-clause-none c = grind (arith, common_steps)

pub returns-in_err-number-clause-none : goal.returns-in_err-number-clause-none
returns-in_err-number-clause-none c = grind (arith, common_steps)

pub returns-in_err-number-2-clause-none : goal.returns-in_err-number-2-clause-none
returns-in_err-number-2-clause-none c = grind (arith, common_steps)

pub returns-in_err-number-3-clause-none : goal.returns-in_err-number-3-clause-none
returns-in_err-number-3-clause-none c = grind (arith, common_steps)

pub returns-in_err-number-4-clause-none : goal.returns-in_err-number-4-clause-none
returns-in_err-number-4-clause-none c = grind (arith, common_steps)

pub returns-clause-found : goal.returns-clause-found
returns-clause-found c = grind (arith, common_steps)

pub returns-clause-none : goal.returns-clause-none
returns-clause-none c = grind (arith, common_steps)

pub returns-in_err-number-clause-found : goal.returns-in_err-number-clause-found
returns-in_err-number-clause-found c = grind (arith, common_steps)

pub returns-in_err-number-2-clause-found : goal.returns-in_err-number-2-clause-found
returns-in_err-number-2-clause-found c = grind (arith, common_steps)

pub returns-in_err-number-3-clause-found : goal.returns-in_err-number-3-clause-found
returns-in_err-number-3-clause-found c = grind (arith, common_steps)

pub returns-in_err-number-4-clause-found : goal.returns-in_err-number-4-clause-found
returns-in_err-number-4-clause-found c = grind (arith, common_steps)
