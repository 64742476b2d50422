use Rattle.range_commit.proofs.Fronts.{size_bound}
use Rattle.range_commit.proofs.queue.Queue.out_size.Goals as goal

pub returns-clause-bound : goal.returns-clause-bound
returns-clause-bound c = size_bound _ _ c.self.invariant.fits c.self.invariant.sized
