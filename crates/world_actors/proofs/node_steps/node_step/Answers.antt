use Rattle.world_actors.specs.declared.run_actor.RunActor.TheVariants.{Node}
use Rattle.world_actors.proofs.NodeSteps.{node_restarted, node_stopped, node_takes_it}
use Rattle.world_actors.proofs.Rests.{node_rests, undelivered}
use Rattle.world_actors.proofs.node_steps.node_step.Goals as goal

pub returns-in-None-clause-ok : goal.returns-in-None-clause-ok
returns-in-None-clause-ok c = rw c.silent.ensures (undelivered (Node c.args.node.now) c.args.input.now c.in-Deliver.number c.in-Deliver.is c.in-None.is)

pub returns-in-Some-clause-ok : goal.returns-in-Some-clause-ok
returns-in-Some-clause-ok c =
    node_takes_it c.args.node.now c.args.input.now c.give.new.node c.give.result c.in-Deliver.number c.in-Some.packet c.in-Deliver.is c.in-Some.is
    c.give.ensures.ok c.give.ensures.few c.give.ensures.plain

pub returns-in-Stop-clause-ok : goal.returns-in-Stop-clause-ok
returns-in-Stop-clause-ok c =
    rw c.silent-in-Stop.ensures (node_stopped c.args.node.now c.args.input.now c.stop.new.self c.in-Stop.actor c.in-Stop.call c.in-Stop.keep c.in-Stop.is c.stop.ensures)

pub returns-in-Ok-clause-ok : goal.returns-in-Ok-clause-ok
returns-in-Ok-clause-ok c = rw c.silent-in-Ok.ensures (node_restarted c.args.node.now c.args.input.now c.restart.new.self c.in-Restart.actor c.in-Restart.is c.in-Ok.ensures.ok)

pub returns-in_default-clause-ok : goal.returns-in_default-clause-ok
returns-in_default-clause-ok c =
    rw c.silent-in_default.ensures
    (node_rests c.args.node.now c.args.input.now (record { deliver = c.in_default.not-Deliver; stop = c.in_default.not-Stop; restart = c.in_default.not-Restart }))
