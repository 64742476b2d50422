use Rattle.std.proofs.lemmas.Result.{on_ok_weaker, on_err_weaker}
use Rattle.model_streams.specs.StreamSystem.{node_takes}
use Rattle.world_steps.specs.ActorStep.{stream_step}
use Rattle.world_streams.proofs.NodeList.{went_from}
use Rattle.world_streams.proofs.Entries.{set_same}
use Rattle.world_streams.proofs.nodes.give_at.Goals as goal

pub returns-clause-ok : goal.returns-clause-ok
returns-clause-ok c =
    on_ok_weaker c.give.result
    (λ h. went_from c.args.at c.args.nodes.now.items c.index_mut.result.now c.give.new.self (λ w k. node_takes w k c.args.packet.now) (stream_step c.give.new.step) c.requires.at c.index_mut.ensures.value h)
    c.give.ensures.ok

pub returns-clause-err : goal.returns-clause-err
returns-clause-err c = on_err_weaker c.give.result (set_same c.args.nodes.now.items c.args.at c.index_mut.result.now c.give.new.self c.index_mut.ensures.value) c.give.ensures.err
