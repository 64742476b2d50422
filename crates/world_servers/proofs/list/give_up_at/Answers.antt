use Rattle.std.proofs.Common.{◌∙◌, ap, sym}
use Rattle.model_partition.specs.Servers.{cell_gives_up, give_up_refusal}
use Rattle.world_servers.proofs.ServerList.{cell_here, one_stepped}
use Rattle.world_servers.proofs.list.give_up_at.Goals as goal

pub returns-in-Ok-clause-ok : goal.returns-in-Ok-clause-ok
returns-in-Ok-clause-ok c =
    one_stepped c.args.actors.now.items c.args.at c.index_mut.result.now c.give_up.new.self (λ cell. cell_gives_up cell c.args.range c.args.pick.now cell.state) c.in-Ok.step c.requires c.index_mut.ensures.value c.in-Ok.ensures.ok

pub returns-in-Ok-clause-refusal : goal.returns-in-Ok-clause-refusal
returns-in-Ok-clause-refusal c =
    c.in-Ok.ensures.refusal
    ∙ sym (ap (give_up_refusal c.args.range c.args.pick.now) (cell_here c.args.actors.now.items c.args.at c.index_mut.result.now c.requires c.index_mut.ensures.value))
