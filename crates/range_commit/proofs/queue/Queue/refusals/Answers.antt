use Rattle.std.proofs.Common.{arith}
use Rattle.std.proofs.lemmas.Grind.{common_steps}
use Rattle.range_commit.proofs.queue.Queue.refusals.Goals as goal

pub returns-clause-packets : goal.returns-clause-packets
returns-clause-packets c = grind (arith, common_steps)
