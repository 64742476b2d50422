use Rattle.std.proofs.Common.{subst, OnOk}
use Rattle.model_streams.specs.StreamSystem.{StreamSystem, restart}
use Rattle.world_streams.specs.StreamLayer.{StreamLayerState, StreamLayerMirrors}
use Rattle.world_streams.proofs.EventSimulation.{state, manager_came}
use Rattle.world_streams.proofs.stream_layer.StreamLayer.restart.Goals as goal

pub returns-in-Manager-clause-ok : goal.returns-in-Manager-clause-ok
returns-in-Manager-clause-ok c =
    let was : StreamLayerState = state c.self.inside.nodes c.self.inside.manager c.self.inside.post.items c.self.inside.notes.items in
    subst (λ (r : StreamLayerState). OnOk c.restart-in-Manager.result ((w : StreamSystem) → StreamLayerMirrors r w → StreamLayerMirrors (record was { manager = c.restart-in-Manager.new.self }) (restart w c.args.actor))) c.self.view_is
    (manager_came was c.restart-in-Manager.new.self c.args.actor c.restart-in-Manager.result c.in-Manager.is c.restart-in-Manager.ensures.ok)
