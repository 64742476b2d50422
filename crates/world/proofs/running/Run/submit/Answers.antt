use Rattle.std.proofs.Common.{OnOk, subst}
use Rattle.model_streams.specs.declared.event.Event.TheVariants.{Submit}
use Rattle.world.specs.Cluster.{ClusterSimulates, ClusterState}
use Rattle.world.proofs.RunInvariant.{goes_on}
use Rattle.world.proofs.running.Run.submit.Goals as goal

pub invariant_of-self : goal.invariant_of-self
invariant_of-self c = goes_on c.self.inside.cluster c.submit.new.self (Submit c.args.user c.args.to c.args.body) c.submit.result c.self.invariant c.submit.ensures.ok c.submit.ensures.err

pub returns-clause-ok : goal.returns-clause-ok
returns-clause-ok c =
    subst (λ (x : ClusterState). OnOk c.submit.result (ClusterSimulates x c.submit.new.self (Submit c.args.user c.args.to c.args.body))) c.self.view_is c.submit.ensures.ok
