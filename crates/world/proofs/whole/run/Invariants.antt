use Rattle.std.proofs.Common.{take}
use Rattle.model_partition.specs.Cluster.{first_cluster}
use Rattle.world.specs.Cluster.{ReachedBy}
use Rattle.world.proofs.whole.run.Given as goal

abbrev pub invariant-loop-event : goal.invariant-loop-event
invariant-loop-event l =
    ReachedBy (take l.event-index l.events) (first_cluster l.setup.nodes l.setup.servers l.setup.target l.setup.batch) l.made
