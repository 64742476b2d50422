use Rattle.std.proofs.Common.{rules}
use Rattle.world.proofs.cluster.Cluster.start.Goals as goal

pub returns : goal.returns
returns c = search rules
