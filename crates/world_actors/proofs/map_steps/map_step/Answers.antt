use Rattle.world_actors.specs.declared.run_actor.RunActor.TheVariants.{Map}
use Rattle.world_actors.proofs.MapSteps.{map_assigns_it, map_renews_it, map_restarted, map_stopped, map_takes_it}
use Rattle.world_actors.proofs.Rests.{map_rests, moment_goes, undelivered}
use Rattle.world_actors.proofs.map_steps.map_step.Goals as goal

pub returns-in-None-clause-ok : goal.returns-in-None-clause-ok
returns-in-None-clause-ok c = rw c.silent.ensures (undelivered (Map c.args.map.now) c.args.input.now c.in-Deliver.number c.in-Deliver.is c.in-None.is)

pub returns-in-Some-clause-ok : goal.returns-in-Some-clause-ok
returns-in-Some-clause-ok c =
    map_takes_it c.args.map.now c.args.input.now c.give.new.self c.give.result c.in-Deliver.number c.in-Some.packet c.in-Deliver.is c.in-Some.is
    c.give.ensures.ok c.give.ensures.few c.give.ensures.plain

pub returns-in-Stop-clause-ok : goal.returns-in-Stop-clause-ok
returns-in-Stop-clause-ok c =
    rw c.silent-in-Stop.ensures (map_stopped c.args.map.now c.args.input.now c.stop.new.self c.in-Stop.actor c.in-Stop.call c.in-Stop.keep c.in-Stop.is c.stop.ensures.stops)

pub returns-in-Ok-clause-ok : goal.returns-in-Ok-clause-ok
returns-in-Ok-clause-ok c = rw c.silent-in-Ok.ensures (map_restarted c.args.map.now c.args.input.now c.restart.new.self c.in-Restart.actor c.in-Restart.is c.in-Ok.ensures.ok)

pub returns-in-Assign-clause-ok : goal.returns-in-Assign-clause-ok
returns-in-Assign-clause-ok c =
    map_assigns_it c.args.map.now c.args.input.now c.assign.new.self c.assign.result c.in-Assign.range c.in-Assign.server c.in-Assign.until c.in-Assign.is
    c.assign.ensures.ok c.assign.ensures.few c.assign.ensures.plain c.assign.ensures.refusal

pub returns-in-Renew-clause-ok : goal.returns-in-Renew-clause-ok
returns-in-Renew-clause-ok c =
    map_renews_it c.args.map.now c.args.input.now c.renew.new.self c.renew.result c.in-Renew.range c.in-Renew.server c.in-Renew.until c.in-Renew.is
    c.renew.ensures.ok c.renew.ensures.few c.renew.ensures.plain c.renew.ensures.refusal

pub returns-in-Moment-clause-ok : goal.returns-in-Moment-clause-ok
returns-in-Moment-clause-ok c = rw (c.silent-in-Moment.ensures, c.moment.ensures) (moment_goes (Map c.args.map.now) c.args.input.now c.in-Moment.now c.in-Moment.is)

pub returns-in_default-clause-ok : goal.returns-in_default-clause-ok
returns-in_default-clause-ok c =
    rw c.silent-in_default.ensures
    (map_rests c.args.map.now c.args.input.now (record {
      call = record { deliver = c.in_default.not-Deliver; stop = c.in_default.not-Stop; restart = c.in_default.not-Restart };
      assign = c.in_default.not-Assign;
      renew = c.in_default.not-Renew;
      moment = c.in_default.not-Moment;
    }))
