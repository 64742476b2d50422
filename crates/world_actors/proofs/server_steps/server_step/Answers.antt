use Rattle.world_actors.specs.declared.run_actor.RunActor.TheVariants.{Server}
use Rattle.world_actors.proofs.ServerSteps.{server_checkpoints_it, server_gives_up_it, server_merges_it, server_restarted, server_splits_it, server_stopped, server_takes_it}
use Rattle.world_actors.proofs.Rests.{moment_goes, server_rests, undelivered}
use Rattle.world_actors.proofs.server_steps.server_step.Goals as goal

pub returns-in-None-clause-ok : goal.returns-in-None-clause-ok
returns-in-None-clause-ok c = rw c.silent.ensures (undelivered (Server c.args.server.now) c.args.input.now c.in-Deliver.number c.in-Deliver.is c.in-None.is)

pub returns-in-Some-clause-ok : goal.returns-in-Some-clause-ok
returns-in-Some-clause-ok c =
    server_takes_it c.args.server.now c.args.input.now c.give.new.self c.give.result c.in-Deliver.number c.in-Some.packet c.in-Deliver.is c.in-Some.is
    c.give.ensures.ok c.give.ensures.same c.give.ensures.few c.give.ensures.plain

pub returns-in-Stop-clause-ok : goal.returns-in-Stop-clause-ok
returns-in-Stop-clause-ok c =
    rw c.silent-in-Stop.ensures (server_stopped c.args.server.now c.args.input.now c.stop.new.self c.in-Stop.actor c.in-Stop.call c.in-Stop.keep c.in-Stop.is c.stop.ensures)

pub returns-in-Restart-clause-ok : goal.returns-in-Restart-clause-ok
returns-in-Restart-clause-ok c =
    rw c.silent-in-Restart.ensures (server_restarted c.args.server.now c.args.input.now c.restart.new.self c.in-Restart.actor c.in-Restart.is c.restart.ensures)

pub returns-in-GiveUp-clause-ok : goal.returns-in-GiveUp-clause-ok
returns-in-GiveUp-clause-ok c =
    server_gives_up_it c.args.server.now c.args.input.now c.give_up.new.self c.give_up.result c.in-GiveUp.server c.in-GiveUp.range c.in-GiveUp.pick c.in-GiveUp.is
    c.give_up.ensures.ok c.give_up.ensures.same c.give_up.ensures.few c.give_up.ensures.plain c.give_up.ensures.refusal

pub returns-in-Checkpoint-clause-ok : goal.returns-in-Checkpoint-clause-ok
returns-in-Checkpoint-clause-ok c =
    server_checkpoints_it c.args.server.now c.args.input.now c.checkpoint.new.self c.checkpoint.result c.in-Checkpoint.server c.in-Checkpoint.range c.in-Checkpoint.combine c.in-Checkpoint.is
    c.checkpoint.ensures.ok c.checkpoint.ensures.same c.checkpoint.ensures.few c.checkpoint.ensures.plain c.checkpoint.ensures.refusal

pub returns-in-Split-clause-ok : goal.returns-in-Split-clause-ok
returns-in-Split-clause-ok c =
    server_splits_it c.args.server.now c.args.input.now c.split.new.self c.split.result c.in-Split.server c.in-Split.range c.in-Split.key c.in-Split.is
    c.split.ensures.ok c.split.ensures.same c.split.ensures.few c.split.ensures.plain c.split.ensures.refusal

pub returns-in-Merge-clause-ok : goal.returns-in-Merge-clause-ok
returns-in-Merge-clause-ok c =
    server_merges_it c.args.server.now c.args.input.now c.merge.new.self c.merge.result c.in-Merge.server c.in-Merge.left c.in-Merge.right c.in-Merge.is
    c.merge.ensures.ok c.merge.ensures.same c.merge.ensures.few c.merge.ensures.plain c.merge.ensures.refusal

pub returns-in-Moment-clause-ok : goal.returns-in-Moment-clause-ok
returns-in-Moment-clause-ok c = rw (c.silent-in-Moment.ensures, c.moment.ensures) (moment_goes (Server c.args.server.now) c.args.input.now c.in-Moment.now c.in-Moment.is)

pub returns-in_default-clause-ok : goal.returns-in_default-clause-ok
returns-in_default-clause-ok c =
    rw c.silent-in_default.ensures
    (server_rests c.args.server.now c.args.input.now (record {
      call = record { deliver = c.in_default.not-Deliver; stop = c.in_default.not-Stop; restart = c.in_default.not-Restart };
      give_up = c.in_default.not-GiveUp;
      checkpoint = c.in_default.not-Checkpoint;
      split = c.in_default.not-Split;
      merge = c.in_default.not-Merge;
      moment = c.in_default.not-Moment;
    }))
