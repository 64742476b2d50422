use Rattle.world_actors.specs.declared.run_actor.RunActor.TheVariants.{Manager}
use Rattle.world_actors.proofs.ManagerSteps.{manager_decides_it, manager_restarted, manager_stopped, manager_takes_it}
use Rattle.world_actors.proofs.Rests.{manager_rests, undelivered}
use Rattle.world_actors.proofs.manager_steps.manager_step.Goals as goal

pub returns-in-None-clause-ok : goal.returns-in-None-clause-ok
returns-in-None-clause-ok c = rw c.silent.ensures (undelivered (Manager c.args.manager.now) c.args.input.now c.in-Deliver.number c.in-Deliver.is c.in-None.is)

pub returns-in-Some-clause-ok : goal.returns-in-Some-clause-ok
returns-in-Some-clause-ok c =
    manager_takes_it c.args.manager.now c.args.input.now c.give.new.self c.give.result c.in-Deliver.number c.in-Some.packet c.in-Deliver.is c.in-Some.is
    c.give.ensures.ok c.give.ensures.few c.give.ensures.plain

pub returns-in-Stop-clause-ok : goal.returns-in-Stop-clause-ok
returns-in-Stop-clause-ok c =
    rw c.silent-in-Stop.ensures (manager_stopped c.args.manager.now c.args.input.now c.stop.new.self c.in-Stop.actor c.in-Stop.call c.in-Stop.keep c.in-Stop.is c.stop.ensures)

pub returns-in-Ok-clause-ok : goal.returns-in-Ok-clause-ok
returns-in-Ok-clause-ok c = rw c.silent-in-Ok.ensures (manager_restarted c.args.manager.now c.args.input.now c.restart.new.self c.in-Restart.actor c.in-Restart.is c.in-Ok.ensures.ok)

pub returns-in-Decide-clause-ok : goal.returns-in-Decide-clause-ok
returns-in-Decide-clause-ok c =
    manager_decides_it c.args.manager.now c.args.input.now c.decide.new.self c.decide.result c.in-Decide.extent c.in-Decide.is c.decide.ensures.ok c.decide.ensures.few c.decide.ensures.tables c.decide.ensures.refusal

pub returns-in_default-clause-ok : goal.returns-in_default-clause-ok
returns-in_default-clause-ok c =
    rw c.silent-in_default.ensures
    (manager_rests c.args.manager.now c.args.input.now (record { deliver = c.in_default.not-Deliver; stop = c.in_default.not-Stop; restart = c.in_default.not-Restart })
    c.in_default.not-Decide)
