use Rattle.std.proofs.Common.{◌∙◌, ap, sym}
use Rattle.model_partition.specs.Servers.{cell_splits, split_refusal_at}
use Rattle.world_servers.proofs.ServerList.{cell_here, one_stepped}
use Rattle.world_servers.proofs.list.split_at.Goals as goal

pub returns-in-Ok-clause-ok : goal.returns-in-Ok-clause-ok
returns-in-Ok-clause-ok c =
    one_stepped c.args.actors.now.items c.args.at c.index_mut.result.now c.split.new.self (λ cell. cell_splits cell c.args.range c.args.key.now cell.state) c.in-Ok.step c.requires c.index_mut.ensures.value c.in-Ok.ensures.ok

pub returns-in-Ok-clause-refusal : goal.returns-in-Ok-clause-refusal
returns-in-Ok-clause-refusal c =
    c.in-Ok.ensures.refusal
    ∙ sym (ap (split_refusal_at c.args.range c.args.key.now) (cell_here c.args.actors.now.items c.args.at c.index_mut.result.now c.requires c.index_mut.ensures.value))
