use Rattle.std.proofs.Common.{ap}
use Rattle.model_streams.specs.StreamSystem.{manager_takes}
use Rattle.world_steps.specs.ActorStep.{ActorStep}
use Rattle.world_streams.proofs.EventSimulation.{manager_fills}
use Rattle.world_streams.proofs.stream_layer.give_manager.Goals as goal

pub returns-clause-ok : goal.returns-clause-ok
returns-clause-ok c =
    manager_fills c.args.manager.now c.give.new.self (λ w. manager_takes w c.args.packet.now) c.in_ok-given.given (record { packets = c.given.inside.packets; notes = c.given.inside.notes })
    (ap (λ (s : ActorStep). s.packets) c.given.view_is) (ap (λ (s : ActorStep). s.notes) c.given.view_is) c.in_ok-given.ensures.ok
