use Rattle.std.proofs.Common.{arith}
use Rattle.std.proofs.lemmas.Grind.{common_steps}
use Rattle.range_replay.proofs.groups.take_groups.Goals as goal

pub returns-in_err-taken-clause-damaged : goal.returns-in_err-taken-clause-damaged
returns-in_err-taken-clause-damaged c = grind (arith, common_steps)

pub loop-group-preserved : goal.loop-group-preserved
loop-group-preserved c = grind (arith, common_steps)

pub returns-clause-ok : goal.returns-clause-ok
returns-clause-ok c = grind (arith, common_steps)
