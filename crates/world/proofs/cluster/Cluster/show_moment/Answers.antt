use Rattle.std.proofs.Common.{subst}
use Rattle.model_streams.specs.declared.event.Event.TheVariants.{Moment}
use Rattle.world.specs.Cluster.{ClusterState, ClusterSimulates}
use Rattle.world.proofs.ClusterSimulation.{cluster_of, moment_came, moments_agree}
use Rattle.world.proofs.cluster.Cluster.show_moment.Goals as goal

pub invariant_of-self : goal.invariant_of-self
invariant_of-self c = moments_agree c.self.inside.servers c.moment.new.self c.self.inside.map c.moment-2.new.self c.args.moment c.self.invariant c.moment.ensures c.moment-2.ensures

pub returns : goal.returns
returns c =
    subst (λ (x : ClusterState). ClusterSimulates x (cluster_of c.self.inside.stream_layer c.moment.new.self c.moment-2.new.self) (Moment c.args.moment)) c.self.view_is
    (moment_came c.self.inside.stream_layer c.self.inside.servers c.moment.new.self c.self.inside.map c.moment-2.new.self c.args.moment c.moment.ensures c.moment-2.ensures)
