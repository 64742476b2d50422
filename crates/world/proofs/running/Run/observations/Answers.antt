use Rattle.std.proofs.Common.{sym, subst}
use Rattle.model_streams.specs.Honest.{Agree, Kept}
use Rattle.model_partition.specs.Honest.{Honest}
use Rattle.world.specs.Cluster.{IsUnmergedRun}
use Rattle.world.proofs.RunInvariant.{is_honest, run_agrees, run_keeps}
use Rattle.world.proofs.running.Run.observations.Goals as goal

pub returns-clause-agree : goal.returns-clause-agree
returns-clause-agree c = subst Agree (sym c.observations.ensures) (run_agrees c.self.inside.cluster c.self.invariant)

pub returns-clause-kept : goal.returns-clause-kept
returns-clause-kept c = subst Kept (sym c.observations.ensures) (run_keeps c.self.inside.cluster c.self.invariant)

pub returns-clause-honest : goal.returns-clause-honest
returns-clause-honest c = λ unmerged. subst Honest (sym c.observations.ensures) (is_honest c.self.inside.cluster (subst IsUnmergedRun (sym c.self.view_is) unmerged))
