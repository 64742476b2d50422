use Rattle.std.proofs.Common.{rules}
use Rattle.range_commit.proofs.queue.Queue.new.Goals as goal

pub returns : goal.returns
returns c = search rules
