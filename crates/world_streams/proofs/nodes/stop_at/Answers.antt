use Rattle.wire.specs.declared.actor.ActorId.TheVariants.{Node}
use Rattle.model_streams.specs.StreamSystem.{stop}
use Rattle.world_steps.specs.ActorStep.{nothing}
use Rattle.world_streams.proofs.NodeList.{went_from}
use Rattle.world_streams.proofs.nodes.stop_at.Goals as goal

pub returns : goal.returns
returns c = went_from c.args.at c.args.nodes.now.items c.index_mut.result.now c.stop.new.self (λ w k. stop w (Node k) c.args.call c.args.keep) nothing c.requires c.index_mut.ensures.value c.stop.ensures
