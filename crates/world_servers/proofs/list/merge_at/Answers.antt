use Rattle.std.proofs.Common.{◌∙◌, ap, sym}
use Rattle.model_partition.specs.Servers.{cell_merges, merge_refusal_at}
use Rattle.world_servers.proofs.ServerList.{cell_here, one_stepped}
use Rattle.world_servers.proofs.list.merge_at.Goals as goal

pub returns-in-Ok-clause-ok : goal.returns-in-Ok-clause-ok
returns-in-Ok-clause-ok c =
    one_stepped c.args.actors.now.items c.args.at c.index_mut.result.now c.merge.new.self (λ cell. cell_merges cell c.args.left c.args.right cell.state) c.in-Ok.step c.requires c.index_mut.ensures.value c.in-Ok.ensures.ok

pub returns-in-Ok-clause-refusal : goal.returns-in-Ok-clause-refusal
returns-in-Ok-clause-refusal c =
    c.in-Ok.ensures.refusal
    ∙ sym (ap (merge_refusal_at c.args.left c.args.right) (cell_here c.args.actors.now.items c.args.at c.index_mut.result.now c.requires c.index_mut.ensures.value))
