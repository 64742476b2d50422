use Rattle.std.proofs.Common.{◌∙◌, subst}
use Rattle.model_streams.specs.Maps.{entry_at}
use Rattle.model_partition.specs.Servers.{ServersOutcome, ShowsLoad, server_loads}
use Rattle.laws_servers.proofs.ServerSteps.{server_takes_shows}
use Rattle.world_streams.proofs.ServerOutput.{rows_shown}
use Rattle.world_streams.proofs.showing.give.Goals as goal

pub returns-in-Ok-give-clause-rows : goal.returns-in-Ok-give-clause-rows
returns-in-Ok-give-clause-rows c =
    rows_shown c.args.observed.now.items c.in-Ok.rows (server_loads (entry_at c.args.servers.now.cells c.args.server) c.args.packet.now.body) c.in-Ok-give.step.tables
    (subst (λ (o : ServersOutcome). ShowsLoad (server_loads (entry_at c.args.servers.now.cells c.args.server) c.args.packet.now.body) o.notes) c.in-Ok-give.ensures.ok
    (server_takes_shows c.args.servers.now.cells c.args.server c.args.packet.now).1)
    (λ table is. c.in-Ok.ensures.rows table (c.loading.ensures ∙ is))
