use Rattle.world.proofs.RunInvariant.{goes_on}
use Rattle.world.proofs.running.Run.advance.Goals as goal

pub invariant_of-self : goal.invariant_of-self
invariant_of-self c = goes_on c.self.inside.cluster c.step.new.self c.args.event.now c.step.result c.self.invariant c.step.ensures.ok c.step.ensures.err
