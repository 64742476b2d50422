use Rattle.std.proofs.Common.{arith}
use Rattle.std.proofs.lemmas.Grind.{common_steps}
use Rattle.model_partition.specs.Cluster.{first_cluster}
use Rattle.world.proofs.RunInvariant.{led_next, led_agrees, led_keeps, led_honest}
use Rattle.world.proofs.whole.run.Goals as goal

pub loop-event-preserved : goal.loop-event-preserved
loop-event-preserved c =
    led_next c.loop-event.made c.step.new.self (first_cluster c.args.setup.now.nodes c.args.setup.now.servers c.args.setup.now.target c.args.setup.now.batch) c.args.events.now
    c.loop-event.event-index c.event-item.result c.event-item.is c.loop-event-test.true c.loop-event.invariant c.in_ok-step.ensures.ok

pub returns-clause-led : goal.returns-clause-led
returns-clause-led c = grind (arith, common_steps)

pub returns-clause-shown : goal.returns-clause-shown
returns-clause-shown c = let led = returns-clause-led c in led.stream_layer.notes

pub returns-clause-agree : goal.returns-clause-agree
returns-clause-agree c =
    led_agrees c.args.setup.now.nodes c.args.setup.now.servers c.args.setup.now.target c.args.setup.now.batch c.args.events.now c.loop-event.made (returns-clause-led c)

pub returns-clause-kept : goal.returns-clause-kept
returns-clause-kept c =
    led_keeps c.args.setup.now.nodes c.args.setup.now.servers c.args.setup.now.target c.args.setup.now.batch c.args.events.now c.loop-event.made (returns-clause-led c)

pub returns-clause-honest : goal.returns-clause-honest
returns-clause-honest c =
    led_honest c.args.setup.now.nodes c.args.setup.now.servers c.args.setup.now.target c.args.setup.now.batch c.args.events.now c.loop-event.made (returns-clause-led c)
