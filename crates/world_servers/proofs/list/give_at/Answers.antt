use Rattle.model_partition.specs.Servers.{cell_takes}
use Rattle.world_servers.proofs.ServerList.{one_stepped}
use Rattle.world_servers.proofs.list.give_at.Goals as goal

pub returns-in-Ok-clause-ok : goal.returns-in-Ok-clause-ok
returns-in-Ok-clause-ok c =
    one_stepped c.args.actors.now.items c.args.at c.index_mut.result.now c.give.new.self (λ cell. cell_takes cell c.args.packet.now cell.state) c.in-Ok.step c.requires c.index_mut.ensures.value c.in-Ok.ensures.ok
