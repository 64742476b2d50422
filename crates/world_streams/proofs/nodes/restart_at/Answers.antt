use Rattle.std.proofs.lemmas.Result.{on_err_weaker, on_ok_weaker}
use Rattle.world_streams.proofs.Entries.{set_same}
use Rattle.world_streams.proofs.NodeList.{restarted_from}
use Rattle.world_streams.proofs.nodes.restart_at.Goals as goal

pub returns-clause-ok : goal.returns-clause-ok
returns-clause-ok c =
    on_ok_weaker c.restart.result (restarted_from c.args.at c.args.nodes.now.items c.index_mut.result.now c.restart.new.self c.requires c.index_mut.ensures.value) c.restart.ensures.ok

pub returns-clause-err : goal.returns-clause-err
returns-clause-err c = on_err_weaker c.restart.result (set_same c.args.nodes.now.items c.args.at c.index_mut.result.now c.restart.new.self c.index_mut.ensures.value) c.restart.ensures.err
