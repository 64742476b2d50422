use Rattle.model_streams.specs.declared.event.Event.TheVariants.{Deliver}
use Rattle.world.proofs.RunInvariant.{goes_on}
use Rattle.world.proofs.running.Run.deliver.Goals as goal

pub invariant_of-self : goal.invariant_of-self
invariant_of-self c = goes_on c.self.inside.cluster c.deliver.new.self (Deliver c.args.number) c.deliver.result c.self.invariant c.deliver.ensures.ok c.deliver.ensures.err
