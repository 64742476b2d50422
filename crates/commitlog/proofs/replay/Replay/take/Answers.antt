use Rattle.std.proofs.Common.{rules, arith}
use Rattle.std.proofs.lemmas.Grind.{common_steps}
use Rattle.commitlog.proofs.replay.Replay.take.Goals as goal

pub returns-then-number-self-2-clause-taken : goal.returns-then-number-self-2-clause-taken
returns-then-number-self-2-clause-taken c = search rules

pub returns-then-number-self-2-clause-line : goal.returns-then-number-self-2-clause-line
returns-then-number-self-2-clause-line c = grind (arith, common_steps)

pub returns-then-number-self-clause-taken : goal.returns-then-number-self-clause-taken
returns-then-number-self-clause-taken c = search rules

pub returns-then-number-self-clause-line : goal.returns-then-number-self-clause-line
returns-then-number-self-clause-line c = search rules
