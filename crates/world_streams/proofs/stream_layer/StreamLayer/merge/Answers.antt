use Rattle.std.proofs.Common.{◌≡◌, ap, inl, rules, subst, sym}
use Rattle.model_partition.specs.Servers.{ArePlain, ServersOutcome, server_merges}
use Rattle.laws_servers.proofs.ServerSteps.{server_merges_tidy}
use Rattle.world_servers.specs.Servers.{outcome}
use Rattle.world_steps.specs.ActorStep.{ActorStep}
use Rattle.world_streams.proofs.stream_layer.StreamLayer.merge.Goals as goal

pub returns-clause-ok : goal.returns-clause-ok
returns-clause-ok c = search rules

-- a merge begins with no loaded table
pub show-requires-clause-rows : goal.show-requires-clause-rows
show-requires-clause-rows c =
    let step : ActorStep = record { packets = c.step.inside.packets; notes = c.step.inside.notes; tables = c.step.inside.tables.items; refusal = c.step.inside.refusal } in
    inl (subst ArePlain (ap (λ (o : ServersOutcome). o.notes)
    (subst (λ (t : ActorStep). server_merges c.args.servers.now.cells c.args.server c.args.left c.args.right ≡ outcome c.merge.new.self.cells t) (sym c.step.view_is) c.in_ok-step.ensures.ok))
    (server_merges_tidy c.args.servers.now.cells c.args.server c.args.left c.args.right).1)
