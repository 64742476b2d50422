use Rattle.world.proofs.RunInvariant.{begins}
use Rattle.world.proofs.running.Run.start.Goals as goal

pub invariant_of-result : goal.invariant_of-result
invariant_of-result c = begins c.args.setup.now.nodes c.args.setup.now.servers c.args.setup.now.target c.args.setup.now.batch c.in_ok-start.field-0 c.in_ok-start.ensures
