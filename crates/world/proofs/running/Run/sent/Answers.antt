use Rattle.std.proofs.Common.{rules, subst}
use Rattle.world.specs.Cluster.{IsRun}
use Rattle.world.proofs.running.Run.sent.Goals as goal

pub returns-clause-sent : goal.returns-clause-sent
returns-clause-sent c = search rules

pub returns-clause-led : goal.returns-clause-led
returns-clause-led c = subst IsRun c.self.view_is c.self.invariant
