use Rattle.std.proofs.Common.{arith}
use Rattle.std.proofs.lemmas.Grind.{common_steps}
use Rattle.range_commit.proofs.queue.Queue.finish.Goals as goal

pub returns : goal.returns
returns c = grind (arith, common_steps)
